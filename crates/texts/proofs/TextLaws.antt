-- Reading a text byte by byte, in pieces however cut, and closing it gives what the definition by lines says of the whole text: `read_whole`.
-- Assumes nothing.
use Rattle.std.specs.Prelude.{Option, None, Some}
use Prim.Native.Nat.{ℕ, suc, ◌+◌, ◌≤◌, ◌<◌, min}
use mathlib.Core.Bool.{Bool, true, false, cond, ◌&&◌, and-false}
use mathlib.Core.List.{List, [], ◌∷◌, ◌++◌}
use mathlib.Core.Path.{◌≡◌, refl, sym, ap, subst, ◌∙◌}
use native.Mathlib.Nat.{add-zero, zero-add, add-suc, suc-add, min-eq_left, min-eq_right}
use native.Mathlib.Numerals.{add-one}
use native.Mathlib.Omega.{arith}
use lib.Dec.{leb, ltb, eqb}
use lib.ListN.{length, set, length-set}
use lib.Seq.{sets, set_out}
use borrow.Author.Tests.{ltb-true, ltb-false, ne_eqb}
use Rattle.entries.specs.declared.State.{State}
use Rattle.entries.specs.declared.Entry.{Entry}
use Rattle.entries.specs.Form.{before, fields, digit, line_of}
use Rattle.entries.specs.Steps.{start, other, follows, grown, typed, before_type, before_category, parted, within, read_in, said_by}
use Rattle.texts.specs.Form.{codes_of, widths_of, kinds_of, categories_of, lines, says, readable, leading, entries, last, Closed, Close, whole}
use Rattle.texts.specs.Steps.{up, Held, Hold, after, ended, in_line, stepped, read_on, finished, closed_by, closed}
use Rattle.entries.proofs.LineLaws.{outcome, line_read, state_other}

-- However a text is cut.
pub read-append : (h : Held) (a b : List ℕ) → read_on h (a ++ b) ≡ read_on (read_on h a) b
read-append h [] b = refl
read-append h (x ∷ xs) b = read-append (stepped h x) xs b

-- ---- the bytes of a text, and its lines
abbrev run_line : Held → List ℕ → Held
run_line h [] = h
run_line h (b ∷ bs) = run_line (in_line h b) bs

abbrev run_lines : Held → List (List ℕ) → Held
run_lines h [] = finished h
run_lines h (l ∷ ls) = run_lines (ended (run_line h l)) ls

-- Behind a line end no line has begun.
finished-ended : (h : Held) → finished (ended h) ≡ ended h
unfolding finished ended said_by
finished-ended (Hold s c w t g) = go (said_by s)
  where
    go : (x : Option Entry) → let k = after x s.lines c w t g in finished k ≡ k
    go None = refl
    go (Some e) = refl

-- Behind another byte one has.
abbrev fresh : State → Bool
fresh s = eqb s.field 0 && eqb s.digits 0

fresh-neither : (a : Bool) (s k : State) → fresh s ≡ false → fresh k ≡ false → fresh (cond a s k) ≡ false
fresh-neither true s k p q = p
fresh-neither false s k p q = q

begun : (s : State) (b : ℕ) → fresh (within s b) ≡ false
unfolding within parted typed
begun s b =
    fresh-neither (eqb b 32) _ _
    (fresh-neither (eqb s.field 0 && leb 4 s.digits) (before_type s) _ refl
    (fresh-neither (eqb s.field 1 && leb 1 s.digits) (before_category s) other refl refl))
    (fresh-neither (follows s (digit b)) (grown s (digit b)) other (rw (ne_eqb (s.digits + 1) 0 (λ e. omega arith), and-false)) refl)

finished-begun : (h : Held) (b : ℕ) → finished (in_line h b) ≡ ended (in_line h b)
unfolding finished
finished-begun (Hold s c w t g) b = rw (begun s b)

before-runs : (h : Held) (b : ℕ) (ls : List (List ℕ)) → run_lines (in_line h b) ls ≡ run_lines h (before b ls)
before-runs h b [] = finished-begun h b ∙ sym (finished-ended (in_line h b))
before-runs h b (l ∷ ls) = refl

by_lines : (h : Held) (text : List ℕ) → finished (read_on h text) ≡ run_lines h (lines text)
unfolding stepped
by_lines h [] = refl
by_lines h (b ∷ bs) = go (eqb b 10) (by_lines (ended h) bs) (by_lines (in_line h b) bs)
  where
    go :
        (a : Bool) → finished (read_on (ended h) bs) ≡ run_lines (ended h) (lines bs) → finished (read_on (in_line h b) bs) ≡ run_lines (in_line h b) (lines bs)
        → finished (read_on (cond a (ended h) (in_line h b)) bs) ≡ run_lines h (cond a ([] ∷ lines bs) (before b (lines bs)))
    go true p q = p
    go false p q = q ∙ before-runs h b (lines bs)

run-line : (s : State) (c w t g l : List ℕ) → run_line (Hold s c w t g) l ≡ Hold (read_in s l) c w t g
run-line s c w t g [] = refl
run-line s c w t g (b ∷ bs) = run-line (within s b) c w t g bs

-- A line from its beginning to its end.
one_line : (n : ℕ) (c w t g l : List ℕ) → ended (run_line (Hold (start n) c w t g) l) ≡ after (line_of (fields l)) n c w t g
unfolding ended
one_line n c w t g l =
    ap ended (run-line (start n) c w t g l)
    ∙ stored (said_by (read_in (start n) l)) (read_in (start n) l).lines
    ∙ line_read (λ (m : ℕ) (e : Entry). after (Some e) m c w t g) (Hold other c w t g) n l
    ∙ sym (stored (line_of (fields l)) n)
  where
    stored : (x : Option Entry) (m : ℕ) → after x m c w t g ≡ outcome (λ (m : ℕ) (e : Entry). after (Some e) m c w t g) (Hold other c w t g) m x
    stored None m = refl
    stored (Some e) m = refl

-- ---- lines, counted and held
-- The number that lines are counted to: the largest stays.
up-counts : (n : ℕ) → up (min n last) ≡ min (suc n) last
up-counts n = go (ltb n last) refl
  where
    go : (a : Bool) → ltb n last ≡ a → up (min n last) ≡ min (suc n) last
    go true e =
        let h : n < last = ltb-true n last e in
        rw (min-eq_left {n = n} {m = last} (omega arith), min-eq_left {n = suc n} {m = last} (omega arith), e) (add-one n)
    go false e =
        let h : last ≤ n = ltb-false n last e in
        rw (min-eq_right {n = last} {m = n} (omega arith), min-eq_right {n = last} {m = suc n} (omega arith))

-- No column reaches that number.
set-counted : (l : List ℕ) (n x : ℕ) → length l ≤ last → set l (min n last) x ≡ set l n x
set-counted l n x s = go (ltb n last) refl
  where
    go : (a : Bool) → ltb n last ≡ a → set l (min n last) x ≡ set l n x
    go true e =
        let h : n < last = ltb-true n last e in
        rw (min-eq_left {n = n} {m = last} (omega arith))
    go false e =
        let h : last ≤ n = ltb-false n last e in
        rw (min-eq_right {n = last} {m = n} (omega arith)) (set_out l last x s ∙ sym (set_out l n x (omega arith)))

-- Columns as slices are: none has more elements than can be counted.
pub record Short (c w t g : List ℕ) : Type 0 where
  pub codes : length c ≤ last
  pub widths : length w ≤ last
  pub types : length t ≤ last
  pub categories : length g ≤ last

short-set : (n x y z u : ℕ) {c w t g : List ℕ} → Short c w t g → Short (set c n x) (set w n y) (set t n z) (set g n u)
short-set n x y z u s =
    record {
      codes = simp length-set s.codes;
      widths = simp length-set s.widths;
      types = simp length-set s.types;
      categories = simp length-set s.categories;
    }

-- A text of other form stays so.
line_other : (c w t g l : List ℕ) → ended (run_line (Hold other c w t g) l) ≡ Hold other c w t g
unfolding ended said_by
line_other c w t g l = ap ended (run-line other c w t g l ∙ ap (λ (s : State). Hold s c w t g) (state_other l))

lines_other : (c w t g : List ℕ) (ls : List (List ℕ)) → run_lines (Hold other c w t g) ls ≡ Hold other c w t g
unfolding finished ended said_by
lines_other c w t g [] = refl
lines_other c w t g (l ∷ ls) = ap (λ (h : Held). run_lines h ls) (line_other c w t g l) ∙ lines_other c w t g ls

-- What lines come to behind n others, of which the columns hold what they can.
abbrev from : ℕ → Bool → ℕ → List Entry → List ℕ → List ℕ → List ℕ → List ℕ → Closed
from n r m es c w t g =
    Close (cond r (Some (min m last)) None) (sets c n (codes_of es)) (sets w n (widths_of es))
    (sets t n (kinds_of es))
    (sets g n (categories_of es))

lines-run :
    (ls : List (List ℕ)) (n : ℕ) (c w t g : List ℕ) → Short c w t g
    → closed_by (run_lines (Hold (start (min n last)) c w t g) ls) ≡ from n (readable ls) (n + length ls) (entries ls) c w t g
unfolding finished
lines-run [] n c w t g s = rw add-zero
lines-run (l ∷ ls) n c w t g s =
    ap (λ (h : Held). closed_by (run_lines h ls)) (one_line (min n last) c w t g l)
    ∙ go (line_of (fields l)) (λ (e : Entry). lines-run ls (suc n) (set c n e.code) (set w n e.width) (set t n e.kind) (set g n e.category) (short-set n e.code e.width e.kind e.category s))
  where
    go :
        (x : Option Entry)
        → ((e : Entry) → closed_by (run_lines (Hold (start (min (suc n) last)) (set c n e.code) (set w n e.width) (set t n e.kind) (set g n e.category)) ls) ≡ from (suc n) (readable ls) (suc n + length ls) (entries ls) (set c n e.code) (set w n e.width) (set t n e.kind) (set g n e.category))
        → closed_by (run_lines (after x (min n last) c w t g) ls) ≡ from n (says x && readable ls) (n + suc (length ls)) (leading x (entries ls)) c w t g
    go None ih = ap closed_by (lines_other c w t g ls)
    go (Some e) ih =
        rw (up-counts n, set-counted c n e.code s.codes, set-counted w n e.width s.widths, set-counted t n e.kind s.types, set-counted g n e.category s.categories, add-suc n (length ls), ← (suc-add n (length ls)))
        (ih e)

-- The whole text, in columns as slices are.
pub read_whole : (text c w t g : List ℕ) → Short c w t g → closed (read_on (Hold (start 0) c w t g) text) ≡ whole text c w t g
unfolding whole
read_whole text c w t g s = ap closed_by (by_lines (Hold (start 0) c w t g) text) ∙ rw zero-add at (lines-run (lines text) 0 c w t g s)

-- ---- reading leaves the columns as long as they were
abbrev Shorts : Held → Type 0
Shorts (Hold s c w t g) = Short c w t g

short_back : (n x y z u : ℕ) {c w t g : List ℕ} → Short (set c n x) (set w n y) (set t n z) (set g n u) → Short c w t g
short_back n x y z u s =
    record {
      codes = simp length-set at s.codes;
      widths = simp length-set at s.widths;
      types = simp length-set at s.types;
      categories = simp length-set at s.categories;
    }

ended-back : (h : Held) → Shorts (ended h) → Shorts h
unfolding ended
ended-back (Hold s c w t g) = go (said_by s)
  where
    go : (x : Option Entry) → Shorts (after x s.lines c w t g) → Short c w t g
    go None q = q
    go (Some e) q = short_back s.lines e.code e.width e.kind e.category q

stepped-back : (h : Held) (b : ℕ) → Shorts (stepped h b) → Shorts h
unfolding stepped
stepped-back (Hold s c w t g) b = go (eqb b 10)
  where
    go : (a : Bool) → Shorts (cond a (ended (Hold s c w t g)) (in_line (Hold s c w t g) b)) → Short c w t g
    go true q = ended-back (Hold s c w t g) q
    go false q = q

read_back : (h : Held) (text : List ℕ) → Shorts (read_on h text) → Shorts h
read_back h [] q = q
read_back h (b ∷ bs) q = stepped-back h b (read_back (stepped h b) bs q)

-- What reading a text from its beginning left in columns as slices are comes to what the definition says, in the columns as they were.
pub reached-whole :
    (s : State) (c w t g : List ℕ) → Short c w t g → (text c₀ w₀ t₀ g₀ : List ℕ) → Hold s c w t g ≡ read_on (Hold (start 0) c₀ w₀ t₀ g₀) text
    → closed (Hold s c w t g) ≡ whole text c₀ w₀ t₀ g₀
reached-whole s c w t g q text c₀ w₀ t₀ g₀ e =
    ap closed e ∙ read_whole text c₀ w₀ t₀ g₀ (read_back (Hold (start 0) c₀ w₀ t₀ g₀) text (subst (λ (h : Held). Shorts h) e q))

-- ---- what the statements allow
-- Beginning allows one state.
pub begin-once : {s k : State} → s ≡ start 0 → k ≡ start 0 → s ≡ k
begin-once p q = p ∙ sym q

-- Reading on allows one state and one content of each column.
pub read-once :
    {h : Held} {s k : State} {c w t g c' w' t' g' : List ℕ} → Hold s c w t g ≡ h → Hold k c' w' t' g' ≡ h
    → (s ≡ k) × (c ≡ c') × (w ≡ w') × (t ≡ t') × (g ≡ g')
read-once p q = (cc, cc, cc, cc, cc)

-- Closing allows one answer and one content of each column.
pub close-once :
    {x : Closed} {a b : Option ℕ} {c w t g c' w' t' g' : List ℕ} → Close a c w t g ≡ x → Close b c' w' t' g' ≡ x
    → (a ≡ b) × (c ≡ c') × (w ≡ w') × (t ≡ t') × (g ≡ g')
close-once p q = (cc, cc, cc, cc, cc)
