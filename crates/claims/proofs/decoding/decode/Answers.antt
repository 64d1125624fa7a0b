use Rattle.std.proofs.Common.{◌≡◌, ◌+◌, ◌-◌, ◌*◌, ◌≤◌, map, length, get_or, take, drop, arith, length-drop, length-take}
use Rattle.claims.specs.Claims.{Claim}
use Rattle.claims.specs.Words.{pure_words, atom_words, PureBelow, AtomBelow}
use Rattle.claims.specs.Meaning.{pure_of, atom_of}
use Rattle.claims.proofs.Putting.{count_put}
use Rattle.claims.proofs.ClaimWords.{Stands, behind, claim_stands, claim_made, count_pures, count_atoms}
use Rattle.claims.proofs.decoding.decode.Goals as goal

pub returns-then-parts-shape : goal.returns-then-parts-shape
returns-then-parts-shape c =
    record { decodes = λ k rest e f. omega (arith, (claim_stands k c.args.words.now rest e).room); room = tt }

pub returns-in_err-pures : goal.returns-in_err-pures
returns-in_err-pures c =
    rw c.from_residual.ensures record {
      decodes =
          λ k rest e f.
          c.in_err-pures.ensures k.pures (claim_stands k c.args.words.now rest e).pure_part f.pures_below;
      room = tt;
    }

pub returns-in_err-atoms : goal.returns-in_err-atoms
returns-in_err-atoms c =
    rw c.from_residual-in_err-atoms.ensures record {
      decodes =
          λ k rest e f.
          c.in_err-atoms.ensures k.atoms (claim_stands k c.args.words.now rest e).atom_part f.atoms_below;
      room = tt;
    }

pub returns : goal.returns
returns c =
    let s = c.args.words.now in
    let p = get_or s 0 0 in
    let a = get_or s 1 0 in
    let few : 3 * (p + a) ≤ length (behind s) = omega arith in
    let enough : 2 ≤ length s = omega arith in
    let pure_words-of = take (3 * p - 0) (behind s) in
    let atom_words-of = take (3 * (p + a) - 3 * p) (drop (3 * p) (behind s)) in
    let pure_count : length pure_words-of ≡ 3 * p = omega (arith, length-take (3 * p - 0) (behind s)) in
    let atom_count : length atom_words-of ≡ 3 * a =
    omega (arith, length-take (3 * (p + a) - 3 * p) (drop (3 * p) (behind s)), length-drop (3 * p) (behind s)) in
    let f = c.in_ok-pures.ensures in
    let g = c.in_ok-atoms.ensures in
    let pures-are = count_put pure_words (PureBelow c.args.names) pure_of pure_words-of p c.in_ok-pures.pures pure_count f.1 f.2 in
    let atoms_are = count_put atom_words (AtomBelow c.args.names) atom_of atom_words-of a c.in_ok-atoms.atoms atom_count g.1 g.2 in
    let k : Claim = record { pures = map pure_of (take p c.in_ok-pures.pures); atoms = map atom_of (take a c.in_ok-atoms.atoms) } in
    let st : Stands k p a (behind s) =
    record {
      pures = count_pures k.pures p a (behind s) few pures-are.0;
      atoms = count_atoms k.atoms p a (behind s) few atoms_are.0;
      room = few;
      pure_part = pures-are.0;
      atom_part = atoms_are.0;
    } in
    record {
      decodes =
          record {
            rest = drop (3 * (p + a)) (behind s);
            words = claim_made k s enough st;
            fits =
                record {
                  few_pures = omega (arith, st.pures);
                  few_atoms = omega (arith, st.atoms);
                  pures_below = pures-are.1;
                  atoms_below = atoms_are.1;
                };
            shape = record { pures = st.pures; atoms = st.atoms };
          };
      room = omega (arith, length-take (length s - 2) (drop 2 s), length-drop 2 s);
    }
