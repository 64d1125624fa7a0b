-- Each atom of a list with its part of a memory.
--
-- DealtEach P: the memory is dealt out to the atoms so that P holds of each atom and its part.
-- dealt_each: what holds of every atom that has its place in a memory holds of each.
-- each_take_out: any atom of the list can be taken out with its part.
use Rattle.std.proofs.Common.{List, [], ◌∷◌}
use Rattle.std.specs.List.{AllByRecursion}
use Rattle.claims.specs.Claims.{Atom}
use Rattle.claims.specs.Memory.{Names, Memory, Parts, Dealt, no_more, one_more}
use Rattle.memory.specs.Taking.{Takes, Put, put_here, put_later}
use Rattle.memory.proofs.Parts.{parts_comm, parts_assoc}
use Rattle.models.specs.Matching.{Placed}

pub data DealtEach (P : Atom → Memory → Type 0) : List Atom → Memory → Type 0 where
  none_each : DealtEach P [] []
  one_each :
      {a : Atom} {more : List Atom} {part rest m : Memory} → Parts part rest m → P a part → DealtEach P more rest →
      DealtEach P (a ∷ more) m

pub dealt_each :
    {n : Names} {P : Atom → Memory → Type 0} {cs : List Atom} {m : Memory} → Dealt n cs m →
    ((x : Atom) (part : Memory) → Placed n cs m x part → P x part) → DealtEach P cs m
dealt_each no_more f = none_each
dealt_each {n} {m = m} (one_more {a = x} {more = more} {part = part} {rest = rest} t h d) f =
    one_each t (f x part first) (dealt_each d (λ y p placed. f y p (later y p placed)))
  where
    first : Placed n (x ∷ more) m x part
    first = record { holds = h; others = more; put = put_here; rest = rest; parts = t; dealt = d }

    later : (y : Atom) (p : Memory) → Placed n more rest y p → Placed n (x ∷ more) m y p
    later y p placed =
        let (e, u, v) = parts_assoc (parts_comm t) placed.parts in
        record {
          holds = placed.holds;
          others = x ∷ placed.others;
          put = put_later placed.put;
          rest = e;
          parts = u;
          dealt = one_more (parts_comm v) h placed.dealt;
        }

pub each_take_out :
    {P : Atom → Memory → Type 0} {a : Atom} {cs ds : List Atom} {m : Memory} → Put a cs ds → DealtEach P ds m →
    (rest : Memory) × Takes (P a) m rest × DealtEach P cs rest
each_take_out put_here (one_each {part = part} {rest = rest} t h d) = (rest, record { part = part; parts = t; is = h }, d)
each_take_out (put_later u) (one_each t h d) =
    let (rest, out, k) = each_take_out u d in
    let (g, g1, g2) = parts_assoc (parts_comm t) out.parts in
    (g, record { part = out.part; parts = g1; is = out.is }, one_each (parts_comm g2) h k)

-- what holds of each element holds of one, and of each other
pub all_put : {A : Type 0} {a : A} {cs ds : List A} (P : A → Type 0) → Put a cs ds → AllByRecursion P ds → P a × AllByRecursion P cs
all_put P put_here h = h
all_put P (put_later u) h = let (p, q) = all_put P u h.1 in (p, (h.0, q))
