-- Taking a part out of a memory, and an element out of a list.
use Rattle.std.specs.Prelude.{List, ◌∷◌}
use Rattle.claims.specs.Memory.{Parts}

-- a part of which P holds can be taken out of m, and leaves e
pub record Takes {A : Type 0} (P : List A → Type 0) (m e : List A) : Type 0 where
  pub part : List A
  pub parts : Parts part e m
  pub is : P part

-- the second list is the first with a put in somewhere
pub data Put {A : Type 0} (a : A) : List A → List A → Type 0 where
  put_here : {cs : List A} → Put a cs (a ∷ cs)
  put_later : {c : A} {cs ds : List A} → Put a cs ds → Put a (c ∷ cs) (c ∷ ds)
