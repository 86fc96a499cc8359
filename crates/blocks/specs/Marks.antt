-- Marks, and what moving a block of them does: `Mark` a code with its class; `marks` two columns as one list; `codes_of`, `classes_of` its columns;
-- `brought` a block brought forward.
-- Assumes nothing.
use Rattle.std.specs.Prelude.{List, [], ◌∷◌, ◌++◌, map, ℕ, take, drop}
use Rattle.std.proofs.Math.Seq.{slice}

-- a code point and its combining class
pub record Mark : Type 0 where
  pub code : ℕ
  pub class : ℕ

abbrev pub mark : ℕ → ℕ → Mark
mark code class = record { code = code; class = class }

-- a column of codes and its column of classes, as one list; it ends with the shorter
abbrev pub marks : List ℕ → List ℕ → List Mark
marks [] ks = []
marks (c ∷ cs) [] = []
marks (c ∷ cs) (k ∷ ks) = mark c k ∷ marks cs ks

-- the columns of a list of marks
abbrev pub codes_of : List Mark → List ℕ
codes_of l = map (λ m. m.code) l

abbrev pub classes_of : List Mark → List ℕ
classes_of l = map (λ m. m.class) l

-- the marks from n on go to a, before those that stood from there to n; all keep their order
abbrev pub brought : ℕ → ℕ → List Mark → List Mark
brought a n l = take a l ++ (drop n l ++ slice a n l)
