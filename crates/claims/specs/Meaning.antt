-- What the types of the code stand for.
use Rattle.std.specs.Prelude.{map, vec_items}
use Rattle.claims.specs.Claims as claims
use Rattle.claims.specs.declared.parts.Pure.{Pure}
use Rattle.claims.specs.declared.parts.Pure.TheVariants.{Same, Other}
use Rattle.claims.specs.declared.parts.Atom.{Atom}
use Rattle.claims.specs.declared.parts.Atom.TheVariants.{Cell, Row}
use Rattle.claims.specs.declared.questions.Claim.{Claim}
use Rattle.claims.specs.declared.questions.Question.{Question}

abbrev pub pure_of : Pure → claims.Pure
pure_of (Same x y) = claims.same x.0 y.0
pure_of (Other x y) = claims.other x.0 y.0

abbrev pub atom_of : Atom → claims.Atom
atom_of (Cell x y) = claims.cell x.0 y.0
atom_of (Row x y) = claims.row x.0 y.0

abbrev pub claim_of : Claim → claims.Claim
claim_of c = record { pures = map pure_of (vec_items c.pures); atoms = map atom_of (vec_items c.atoms) }

abbrev pub question_of : Question → claims.Question
question_of q = record { names = q.names; first = claim_of q.first; second = claim_of q.second }
