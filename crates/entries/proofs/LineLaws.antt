-- A line, read byte by byte: at its end its entry is held where it has the form, and else the text is of other form.
-- Assumes nothing.
use Rattle.std.specs.Prelude.{Option, None, Some}
use Prim.Native.Nat.{ℕ}
use mathlib.Core.Bool.{Bool, true, false, cond, ◌&&◌, and-true, false≢true}
use mathlib.Core.List.{List, [], ◌∷◌}
use mathlib.Core.Path.{◌≡◌, refl, sym, ap, ◌∙◌}
use lib.Dec.{leb, eqb}
use lib.ListN.{length}
use Rattle.entries.specs.declared.State.{State}
use Rattle.entries.specs.declared.Entry.{Entry}
use Rattle.entries.specs.Form.{before, fields, digit, all_digits, value, is_code, bare, is_number, held, line_of}
use Rattle.entries.specs.Steps.{start, other, typed, parted, within, read_in, said_by}
use Rattle.entries.proofs.FieldLaws.{run_digits, digits-other, at, field_run}

-- ---- the bytes of a line, and its fields
-- Fields, with a blank between each two.
abbrev pub run_fields : State → List (List ℕ) → State
run_fields s [] = s
run_fields s (f ∷ []) = run_digits s f
run_fields s (f ∷ (g ∷ gs)) = run_fields (parted (run_digits s f)) (g ∷ gs)

-- Whether there is a part.
abbrev some : List (List ℕ) → Bool
some [] = false
some (f ∷ fs) = true

before-some : (b : ℕ) (fs : List (List ℕ)) → some (before b fs) ≡ true
before-some b [] = refl
before-some b (f ∷ fs) = refl

fields-some : (l : List ℕ) → some (fields l) ≡ true
fields-some [] = refl
fields-some (b ∷ bs) = go (eqb b 32)
  where
    go : (t : Bool) → some (cond t ([] ∷ fields bs) (before b (fields bs))) ≡ true
    go true = refl
    go false = before-some b (fields bs)

-- A field of no bytes, and a blank behind it.
blank-run : (s : State) (fs : List (List ℕ)) → some fs ≡ true → run_fields (parted s) fs ≡ run_fields s ([] ∷ fs)
blank-run s [] h = absurd (false≢true h)
blank-run s (f ∷ fs) h = refl

-- A byte more in front of the first field.
digit-run : (s : State) (b : ℕ) (fs : List (List ℕ)) → run_fields (typed s (digit b)) fs ≡ run_fields s (before b fs)
digit-run s b [] = refl
digit-run s b (f ∷ []) = refl
digit-run s b (f ∷ (g ∷ gs)) = refl

pub by-fields : (s : State) (l : List ℕ) → read_in s l ≡ run_fields s (fields l)
unfolding within
by-fields s [] = refl
by-fields s (b ∷ bs) = go (eqb b 32) refl (by-fields (within s b) bs)
  where
    go :
        (t : Bool) → eqb b 32 ≡ t → read_in (within s b) bs ≡ run_fields (within s b) (fields bs)
        → read_in (within s b) bs ≡ run_fields s (cond t ([] ∷ fields bs) (before b (fields bs)))
    go true e ih = ih ∙ rw e (blank-run s (fields bs) (fields-some bs))
    go false e ih = ih ∙ rw e (digit-run s b (fields bs))

-- ---- what a line end makes of them
-- Any function of a state, behind a test b that leaves the state s or one of other form.
through : {A : Type 0} (f : State → A) (a b : Bool) (s : State) (x y : A) → f s ≡ cond a x y → f other ≡ y → f (cond b s other) ≡ cond (a && b) x y
through f true true s x y p q = p
through f false true s x y p q = p
through f true false s x y p q = q
through f false false s x y p q = q

parted-other : parted other ≡ other
unfolding parted
parted-other = refl

fields-other : (fs : List (List ℕ)) → run_fields other fs ≡ other
fields-other [] = refl
fields-other (f ∷ []) = digits-other f
fields-other (f ∷ (g ∷ gs)) = ap (λ (s : State). run_fields s (g ∷ gs)) (ap parted (digits-other f) ∙ parted-other) ∙ fields-other (g ∷ gs)

-- The states behind the code, and behind the type.
abbrev behind_code : List ℕ → ℕ → State
behind_code f n = record { field = 1; digits = 0; value = 0; code = value 16 f; width = length f; kind = 0; lines = n }

abbrev behind_type : List ℕ → List ℕ → ℕ → State
behind_type f h n = record { field = 2; digits = 0; value = 0; code = value 16 f; width = length f; kind = held h; lines = n }

code-run : (f : List ℕ) (n : ℕ) → parted (run_digits (start n) f) ≡ cond (is_code f) (behind_code f n) other
unfolding is_code parted
code-run f n =
    ap parted (rw and-true at (field_run 0 0 0 0 n refl f))
    ∙ through parted (leb 4 (length f)) (leb (length f) 6 && all_digits 16 f) (at 0 0 0 0 n refl (length f) (value 16 f)) (behind_code f n) other refl refl

type-run : (f h : List ℕ) (n : ℕ) → parted (run_digits (behind_code f n) h) ≡ cond (is_number h) (behind_type f h n) other
unfolding is_number parted
type-run f h n =
    ap parted (field_run 1 (value 16 f) (length f) 0 n refl h)
    ∙ through parted (leb 1 (length h)) (leb (length h) 3 && (all_digits 10 h && bare h)) (at 1 (value 16 f) (length f) 0 n refl (length h) (value 10 h)) (behind_type f h n) other refl refl

-- What a line comes to, where an entry e that stands behind n lines comes to `stored n e`, and a line of other form to `off`.
abbrev pub outcome : {A : Type 0} → (ℕ → Entry → A) → A → ℕ → Option Entry → A
outcome stored off n None = off
outcome stored off n (Some e) = stored n e

module _ {A : Type 0} (stored : ℕ → Entry → A) (off : A) (n : ℕ) where
  abbrev pub close : State → A
  close s = outcome stored off s.lines (said_by s)

  outcome-cond : (b : Bool) (m : ℕ) (e : Entry) → outcome stored off m (cond b (Some e) None) ≡ cond b (stored m e) off
  outcome-cond true m e = refl
  outcome-cond false m e = refl

  close_other : close other ≡ off
  unfolding said_by
  close_other = refl

  category-run :
      (f h j : List ℕ)
      → close (run_digits (behind_type f h n) j)
      ≡ cond (is_number j) (stored n (record { code = value 16 f; width = length f; kind = held h; category = held j })) off
  unfolding is_number said_by
  category-run f h j =
      ap close (field_run 2 (value 16 f) (length f) (held h) n refl j)
      ∙ through close (leb 1 (length j)) (leb (length j) 3 && (all_digits 10 j && bare j)) (at 2 (value 16 f) (length f) (held h) n refl (length j) (value 10 j)) _ _
      (outcome-cond (leb 1 (length j)) n _)
      refl

  -- A line end in the code or the type.
  unfinished : (a : Bool) (s : State) → eqb s.field 2 ≡ false → close (cond a s other) ≡ off
  unfolding said_by
  unfinished true s e = rw e
  unfinished false s e = refl

  in_code : (f : List ℕ) → close (run_digits (start n) f) ≡ off
  in_code f =
      ap close (field_run 0 0 0 0 n refl f)
      ∙ unfinished (leb (length f) 6 && (all_digits 16 f && true)) (at 0 0 0 0 n refl (length f) (value 16 f)) refl

  in_type : (f h : List ℕ) → close (run_digits (behind_code f n) h) ≡ off
  in_type f h =
      ap close (field_run 1 (value 16 f) (length f) 0 n refl h)
      ∙ unfinished (leb (length h) 3 && (all_digits 10 h && bare h)) (at 1 (value 16 f) (length f) 0 n refl (length h) (value 10 h)) refl

  -- A blank behind the category.
  in_category : (f h j : List ℕ) → parted (run_digits (behind_type f h n) j) ≡ other
  unfolding parted
  in_category f h j =
      ap parted (field_run 2 (value 16 f) (length f) (held h) n refl j)
      ∙ through parted false (leb (length j) 3 && (all_digits 10 j && bare j)) (at 2 (value 16 f) (length f) (held h) n refl (length j) (value 10 j)) other other refl refl

  ended-other : (fs : List (List ℕ)) → close (run_fields other fs) ≡ off
  ended-other fs = ap close (fields-other fs) ∙ close_other

  pub line-run : (fs : List (List ℕ)) → close (run_fields (start n) fs) ≡ outcome stored off n (line_of fs)
  line-run [] = unfinished true (start n) refl
  line-run (f ∷ []) = in_code f
  line-run (f ∷ (h ∷ [])) = ap (λ (s : State). close (run_digits s h)) (code-run f n) ∙ go (is_code f)
    where
      go : (a : Bool) → close (run_digits (cond a (behind_code f n) other) h) ≡ off
      go true = in_type f h
      go false = ended-other (h ∷ [])
  line-run (f ∷ (h ∷ (j ∷ []))) = ap (λ (s : State). close (run_fields s (h ∷ (j ∷ [])))) (code-run f n) ∙ go (is_code f)
    where
      e : Entry
      e = record { code = value 16 f; width = length f; kind = held h; category = held j }

      last : (b : Bool) → close (run_digits (cond b (behind_type f h n) other) j) ≡ outcome stored off n (cond (b && is_number j) (Some e) None)
      last true = category-run f h j ∙ sym (outcome-cond (is_number j) n e)
      last false = ended-other (j ∷ [])

      go : (a : Bool) → close (run_fields (cond a (behind_code f n) other) (h ∷ (j ∷ []))) ≡ outcome stored off n (cond (a && (is_number h && is_number j)) (Some e) None)
      go true = ap (λ (s : State). close (run_digits s j)) (type-run f h n) ∙ last (is_number h)
      go false = ended-other (h ∷ (j ∷ []))
  line-run (f ∷ (h ∷ (j ∷ (x ∷ xs)))) = ap (λ (s : State). close (run_fields s (h ∷ (j ∷ (x ∷ xs))))) (code-run f n) ∙ go (is_code f)
    where
      last : (b : Bool) → close (run_fields (cond b (behind_type f h n) other) (j ∷ (x ∷ xs))) ≡ off
      last true = ap (λ (s : State). close (run_fields s (x ∷ xs))) (in_category f h j) ∙ ended-other (x ∷ xs)
      last false = ended-other (j ∷ (x ∷ xs))

      go : (a : Bool) → close (run_fields (cond a (behind_code f n) other) (h ∷ (j ∷ (x ∷ xs)))) ≡ off
      go true = ap (λ (s : State). close (run_fields s (j ∷ (x ∷ xs)))) (type-run f h n) ∙ last (is_number h)
      go false = ended-other (h ∷ (j ∷ (x ∷ xs)))

  -- A line from its beginning to its end comes to what the definition says of it.
  pub line_read : (l : List ℕ) → close (read_in (start n) l) ≡ outcome stored off n (line_of (fields l))
  line_read l = ap close (by-fields (start n) l) ∙ line-run (fields l)

-- So the line says what the definition says.
pub line-said : (n : ℕ) (l : List ℕ) → said_by (read_in (start n) l) ≡ line_of (fields l)
line-said n l = plain (said_by (read_in (start n) l)) (read_in (start n) l).lines ∙ line_read (λ (m : ℕ) (e : Entry). Some e) None n l ∙ sym (plain (line_of (fields l)) n)
  where
    plain : (x : Option Entry) (m : ℕ) → x ≡ outcome (λ (m : ℕ) (e : Entry). Some e) None m x
    plain None m = refl
    plain (Some e) m = refl

-- A text of other form stays so.
pub state_other : (l : List ℕ) → read_in other l ≡ other
state_other l = by-fields other l ∙ fields-other (fields l)

-- ---- what the statements allow: one state before a line, one behind a byte, one answer at the end
pub start-once : {n : ℕ} {s k : State} → s ≡ start n → k ≡ start n → s ≡ k
start-once p q = cc

pub within-once : (s : State) (b : ℕ) {t k : State} → t ≡ within s b → k ≡ within s b → t ≡ k
within-once s b p q = cc

pub said-once : (s : State) {x y : Option Entry} → x ≡ said_by s → y ≡ said_by s → x ≡ y
said-once s p q = cc
