-- Of the stretched line by places: sums over places (`total-same`, `total-last`); the records that runs add, as such a sum (`added_in`, `added-places`); where a record comes that is no tile (`plain_at`), and the run that begins at a place (`run_at`); the records of a run that is placed (`run-stands`).
-- Assumes nothing.
use mathlib.Core.Path.{◌≡◌, refl, sym, ap, ap₂, ◌∙◌}
use mathlib.Core.Bool.{Bool, true, false, cond, not, ◌&&◌, true≢false, and-false}
use mathlib.Core.List.{List, [], ◌∷◌, ◌++◌, append_assoc}
use Prim.Native.Nat.{ℕ, zero, suc, ◌+◌, ◌-◌, ◌*◌, ◌<◌, ◌≤◌}
use native.Mathlib.Omega.{arith}
use borrow.Author.Tests.{lt-ltb}
use lib.Dec.{ltb}
use lib.ListN.{length, get_or, drop, replicate, length-append, get_or-append}
use lib.Seq.{get_or-append_seam, get_or-append-add}
use lib.IntN.{ℤ, pos, +ℤ_idr}
use Rattle.fitting.specs.Saturating.{clamped, sat_add_lem, sat_sub_lem}
use Rattle.fitting.proofs.SignedLaws.{clamp_id, sat_add-fits, sat_sub-fits}
use Rattle.runs.specs.declared.Tile.{Tile}
use Rattle.runs.specs.Records.{Record, kept}
use Rattle.runs.specs.Runs.{is_tile, run, tiles, copies_of}
use Rattle.runs.specs.Stretched.{Piece, piece, pieces, copies_for, run_pieces, moved, next, offset_at, placed, placed_run, worked, records_added}
use Rattle.runs.proofs.RecordLaws.{blank}
use Rattle.runs.proofs.StretchedLaws.{worked-plain, length_run, length-pieces}
use Rattle.tiling.specs.Tiles.{total, tile_first, begins, extra, spot, beside, RunStands}

-- ---- sums over places
pub total-same : (f g : ℕ → ℕ) (n : ℕ) → ((k : ℕ) → k < n → f k ≡ g k) → total f n ≡ total g n
total-same f g zero h = refl
total-same f g (suc n) h =
    ap₂ (λ (x y : ℕ). x + y) (h 0 (omega arith)) (total-same (λ (k : ℕ). f (suc k)) (λ (k : ℕ). g (suc k)) n (λ k b. h (suc k) (omega (arith, b))))

pub total-last : (f : ℕ → ℕ) (n : ℕ) → total f (suc n) ≡ total f n + f n
total-last f zero = omega arith
total-last f (suc n) = omega (arith, total-last (λ (k : ℕ). f (suc k)) n)

-- ---- where runs begin, in a list before which a tile stands or not
abbrev starts : Bool → List Record → ℕ → Bool
starts inside l zero = not inside && tile_first l
starts inside l (suc i) = not (tile_first (drop i l)) && tile_first (drop (suc i) l)

starts_more : (inside : Bool) (r : Record) (rs : List Record) (i : ℕ) → starts inside (r ∷ rs) (suc i) ≡ starts (is_tile r) rs i
starts_more inside r rs zero = refl
starts_more inside r rs (suc i) = refl

starts-begins : (l : List Record) (i : ℕ) → starts false l i ≡ begins l i
starts-begins l zero = refl
starts-begins l (suc i) = refl

-- what a run adds at its first place
abbrev added_in : Bool → List Record → ℕ → ℕ
added_in inside l i = cond (starts inside l i) (copies_of (drop i l) * tiles (drop i l)) 0

added_more : (inside : Bool) (r : Record) (rs : List Record) (n : ℕ) → total (λ (k : ℕ). added_in inside (r ∷ rs) (suc k)) n ≡ total (added_in (is_tile r) rs) n
added_more inside r rs n =
    total-same (λ (k : ℕ). added_in inside (r ∷ rs) (suc k)) (added_in (is_tile r) rs) n
    (λ k h. ap (λ (b : Bool). cond b (copies_of (drop k rs) * tiles (drop k rs)) 0) (starts_more inside r rs k))

added_in_lem : (inside : Bool) (l : List Record) → records_added inside l ≡ total (added_in inside l) (length l)
unfolding records_added
added_in_lem inside [] = refl
added_in_lem inside (r ∷ rs) =
    go (is_tile r) inside (copies_of (r ∷ rs) * tiles (r ∷ rs)) (λ (t : Bool). records_added t rs)
    ∙ ap (λ (n : ℕ). cond (not inside && is_tile r) (copies_of (r ∷ rs) * tiles (r ∷ rs)) 0 + n) (added_in_lem (is_tile r) rs ∙ sym (added_more inside r rs (length rs)))
  where
    go : (t i : Bool) (x : ℕ) (f : Bool → ℕ) → cond t (cond i 0 x + f true) (f false) ≡ cond (not i && t) x 0 + f t
    go true true x f = refl
    go true false x f = refl
    go false true x f = omega arith
    go false false x f = omega arith

abbrev pub added_here : List Record → ℕ → ℕ
added_here l i = cond (begins l i) (copies_of (drop i l) * tiles (drop i l)) 0

here_in : (l : List Record) (n : ℕ) → total (added_in false l) n ≡ total (added_here l) n
here_in l n = total-same (added_in false l) (added_here l) n (λ k h. ap (λ (b : Bool). cond b (copies_of (drop k l) * tiles (drop k l)) 0) (starts-begins l k))

pub added-places : (l : List Record) → records_added false l ≡ total (added_here l) (length l)
added-places l = added_in_lem false l ∙ here_in l (length l)

-- ---- where a record comes in the work
-- the work is what comes before a place of the line, and the rest of it; inside a run its tiles do not count
record Split (rtl inside : Bool) (l : List Record) (i : ℕ) (rest : List Record) : Type 0 where
  before : List Record
  parts : worked rtl inside l ≡ before ++ rest
  long : length before + cond inside (length (run l)) 0 ≡ i + total (added_in inside l) i

-- by one record more
split-more : (rtl inside : Bool) (r : Record) (rs : List Record) (i : ℕ) (rest : List Record) → Split rtl (is_tile r) rs i rest → Split rtl inside (r ∷ rs) (suc i) rest
unfolding worked
split-more rtl inside r rs i rest x = go (is_tile r) refl inside x (added_more inside r rs i)
  where
    go : (t : Bool) → is_tile r ≡ t → (n : Bool) → Split rtl t rs i rest → total (λ (k : ℕ). added_in n (r ∷ rs) (suc k)) i ≡ total (added_in t rs) i → Split rtl n (r ∷ rs) (suc i) rest
    go true f true s a =
        let tiled : length (run (r ∷ rs)) ≡ suc (length (run rs)) = rw f in
        record { before = s.before; parts = rw f s.parts; long = omega (arith, s.long, a, tiled) }
    go true f false s a =
        let l = r ∷ rs in
        let tiled : length (run l) ≡ suc (length (run rs)) = rw f in
        let first : added_in false l 0 ≡ copies_of l * tiles l = rw f in
        record {
          before = placed_run rtl l ++ s.before;
          parts = rw f (ap (λ (m : List Record). placed_run rtl l ++ m) s.parts ∙ sym (append_assoc (placed_run rtl l) s.before rest));
          long = omega (arith, s.long, a, tiled, first, length-append (placed_run rtl l) s.before, length_run rtl l);
        }
    go false f n s a =
        let none : length (run (r ∷ rs)) ≡ 0 = rw f in
        let first : added_in n (r ∷ rs) 0 ≡ 0 = rw (f, and-false (not n)) in
        record {
          before = r ∷ s.before;
          parts = worked-plain r rs f rtl n ∙ ap (λ (m : List Record). r ∷ m) s.parts;
          long = at n (omega (arith, s.long, a, first)) none;
        }
      where
        at : (n : Bool) → suc (length s.before) ≡ suc i + total (added_in n (r ∷ rs)) (suc i) → length (run (r ∷ rs)) ≡ 0 → suc (length s.before) + cond n (length (run (r ∷ rs))) 0 ≡ suc i + total (added_in n (r ∷ rs)) (suc i)
        at true h z = omega (arith, h, z)
        at false h z = omega (arith, h)

-- at a place where a run begins
split-run : (rtl inside : Bool) (l : List Record) (i : ℕ) → starts inside l i ≡ true → Split rtl inside l i (placed_run rtl (drop i l) ++ worked rtl true (drop i l))
unfolding worked
split-run rtl inside [] zero e = absurd (true≢false (sym e ∙ and-false (not inside)))
split-run rtl inside [] (suc i) e = absurd (true≢false (sym e ∙ and-false (not (tile_first (drop i [])))))
split-run rtl true (r ∷ rs) zero e = absurd (true≢false (sym e))
split-run rtl false (r ∷ rs) zero e = record { before = []; parts = rw e; long = refl }
split-run rtl inside (r ∷ rs) (suc i) e = split-more rtl inside r rs i _ (split-run rtl (is_tile r) rs i (sym (starts_more inside r rs i) ∙ e))

-- at a record that is no tile
split_plain : (rtl inside : Bool) (l : List Record) (i : ℕ) → i < length l → tile_first (drop i l) ≡ false → Split rtl inside l i (get_or l i blank ∷ worked rtl false (drop (suc i) l))
split_plain rtl inside [] i h e = absurd (omega arith)
split_plain rtl inside (r ∷ rs) zero h e =
    let none : length (run (r ∷ rs)) ≡ 0 = rw e in
    record { before = []; parts = worked-plain r rs e rtl inside; long = at inside none }
  where
    at : (n : Bool) → length (run (r ∷ rs)) ≡ 0 → 0 + cond n (length (run (r ∷ rs))) 0 ≡ 0 + 0
    at true z = omega (arith, z)
    at false z = refl
split_plain rtl inside (r ∷ rs) (suc i) h e = split-more rtl inside r rs i _ (split_plain rtl (is_tile r) rs i (omega arith) e)

-- a record of the line that is no tile: its place in the work
pub plain_at : (rtl : Bool) (l : List Record) (i : ℕ) → i < length l → tile_first (drop i l) ≡ false
    → (i + total (added_here l) i < length (worked rtl false l)) × (get_or (worked rtl false l) (i + total (added_here l) i) blank ≡ get_or l i blank)
plain_at rtl l i h e =
    let s = split_plain rtl false l i h e in
    let B = worked rtl false (drop (suc i) l) in
    let n : i + total (added_here l) i ≡ length s.before = omega (arith, s.long, here_in l i) in
    rw (n, s.parts) (omega (arith, length-append s.before (get_or l i blank ∷ B)), get_or-append_seam s.before (get_or l i blank) B blank)

-- the k-th record of the run that begins at place i of the line: its place in the work, and that there is one
pub run_at : (rtl : Bool) (l : List Record) (i : ℕ) → begins l i ≡ true → (k : ℕ) → k < length (placed_run rtl (drop i l))
    → (i + total (added_here l) i + k < length (worked rtl false l)) × (get_or (worked rtl false l) (i + total (added_here l) i + k) blank ≡ get_or (placed_run rtl (drop i l)) k blank)
run_at rtl l i e k h =
    let s = split-run rtl false l i (starts-begins l i ∙ e) in
    let R = placed_run rtl (drop i l) in
    let B = worked rtl true (drop i l) in
    let n : i + total (added_here l) i ≡ length s.before = omega (arith, s.long, here_in l i) in
    rw (n, s.parts) (
      omega (arith, h, length-append s.before (R ++ B), length-append R B),
      get_or-append-add s.before (R ++ B) k blank ∙ get_or-append R B blank k h,
    )

-- ---- pieces, placed one behind the other
abbrev none : Piece
none = piece (kept blank) (pos 0)

placed-kept : (rtl : Bool) (x : ℤ) (ps : List Piece) (k : ℕ) → k < length ps → kept (get_or (placed rtl x ps) k blank) ≡ (get_or ps k none).of
unfolding placed
placed-kept rtl x [] k h = absurd (omega arith)
placed-kept rtl x (p ∷ ps) zero h = refl
placed-kept rtl x (p ∷ ps) (suc k) h = placed-kept rtl (next rtl x p) ps k (omega arith)

placed-next :
    (rtl : Bool) (x : ℤ) (ps : List Piece) (k : ℕ) → suc k < length ps
    → (get_or (placed rtl x ps) (suc k) blank).offset ≡ next rtl (get_or (placed rtl x ps) k blank).offset (cond rtl (get_or ps (suc k) none) (get_or ps k none))
unfolding placed offset_at
placed-next rtl x [] k h = absurd (omega arith)
placed-next rtl x (p ∷ []) k h = absurd (omega arith)
placed-next true x (p ∷ (s ∷ ps)) zero h = refl
placed-next false x (p ∷ (s ∷ ps)) zero h = refl
placed-next rtl x (p ∷ (s ∷ ps)) (suc k) h = placed-next rtl (next rtl x p) (s ∷ ps) k (omega arith)

-- an overlap of 0
add_none : (x w : ℤ) → sat_add_lem (sat_sub_lem x w) (pos 0) ≡ sat_sub_lem x w
unfolding sat_add_lem
add_none x w = ap clamped (+ℤ_idr (sat_sub_lem x w)) ∙ clamp_id (sat_sub-fits x w)

sub_none : (x w : ℤ) → sat_sub_lem (sat_add_lem x w) (pos 0) ≡ sat_add_lem x w
unfolding sat_sub_lem
sub_none x w = ap clamped (+ℤ_idr (sat_add_lem x w)) ∙ clamp_id (sat_add-fits x w)

add_lap : (copy : Bool) (x w overlap : ℤ) → sat_add_lem (sat_sub_lem x w) (cond copy overlap (pos 0)) ≡ cond copy (sat_add_lem (sat_sub_lem x w) overlap) (sat_sub_lem x w)
add_lap true x w overlap = refl
add_lap false x w overlap = add_none x w

sub_lap : (copy : Bool) (x w overlap : ℤ) → sat_sub_lem (sat_add_lem x w) (cond copy overlap (pos 0)) ≡ cond copy (sat_sub_lem (sat_add_lem x w) overlap) (sat_add_lem x w)
sub_lap true x w overlap = refl
sub_lap false x w overlap = sub_none x w

-- a piece of a tile, which takes the overlap if it is a copy
abbrev lapping : ℕ → Bool → Tile → Piece
lapping o copy t = piece t (cond copy (pos o) (pos 0))

placed-beside :
    (rtl : Bool) (x : ℤ) (ps : List Piece) (o : ℕ) (k : ℕ) → suc k < length ps
    → (copied copy : Bool) (t u : Tile) → get_or ps k none ≡ lapping o copied t → get_or ps (suc k) none ≡ lapping o copy u
    → (get_or (placed rtl x ps) (suc k) blank).offset ≡ beside rtl o copied copy (get_or (placed rtl x ps) k blank) (get_or (placed rtl x ps) (suc k) blank)
unfolding next moved
placed-beside true x ps o k h copied copy t u e f =
    let wide : (get_or (placed true x ps) (suc k) blank).width ≡ u.width = ap (λ (a : Tile). a.width) (placed-kept true x ps (suc k) h ∙ ap (λ (p : Piece). p.of) f) in
    placed-next true x ps k h ∙ rw (f, wide) (add_lap copy _ u.width (pos o))
placed-beside false x ps o k h copied copy t u e f =
    let wide : (get_or (placed false x ps) k blank).width ≡ t.width = ap (λ (a : Tile). a.width) (placed-kept false x ps k (omega (arith, h)) ∙ ap (λ (p : Piece). p.of) e) in
    placed-next false x ps k h ∙ rw (e, wide) (sub_lap copied _ t.width (pos o))

placed_first :
    (rtl : Bool) (x : ℤ) (ps : List Piece) → 0 < length ps → (get_or ps 0 none).lap ≡ pos 0
    → (get_or (placed rtl x ps) 0 blank).offset ≡ cond rtl (sat_sub_lem x (get_or (placed rtl x ps) 0 blank).width) x
unfolding placed offset_at next moved
placed_first rtl x [] h e = absurd (omega arith)
placed_first true x (p ∷ ps) h e = ap (λ (lap : ℤ). sat_add_lem (sat_sub_lem x p.of.width) lap) e ∙ add_none x p.of.width
placed_first false x (p ∷ ps) h e = refl

-- ---- the pieces of a run, by places
at_copies : (n : ℕ) (p : Piece) (ps : List Piece) (m : ℕ) → m < n → get_or (replicate n p ++ ps) m none ≡ p
at_copies zero p ps m h = absurd (omega arith)
at_copies (suc n) p ps zero h = refl
at_copies (suc n) p ps (suc m) h = at_copies n p ps m (omega arith)

at-pieces : (n o : ℕ) (t : Tile) (ps : List Piece) (m : ℕ) → m ≤ n → get_or (pieces n (pos o) t ++ ps) m none ≡ lapping o (ltb 0 m) t
unfolding pieces
at-pieces n o t ps zero h = refl
at-pieces n o t ps (suc m) h = at_copies n (piece t (pos o)) ps m (omega arith) ∙ sym (ap (λ (b : Bool). lapping o b t) (lt-ltb 0 (suc m) (omega arith)))

module _ (c o : ℕ) where
  piece-at :
      (l : List Record) (tile : ℕ → Record) → ((k : ℕ) → k < length l → tile k ≡ get_or l k blank)
      → (k m : ℕ) → k < length l → m ≤ extra tile c k
      → (spot tile c k + m < length (run_pieces c (pos o) l)) × (get_or (run_pieces c (pos o) l) (spot tile c k + m) none ≡ lapping o (ltb 0 m) (kept (tile k)))
  unfolding run_pieces
  piece-at [] tile same k m h b = absurd (omega arith)
  piece-at (r ∷ rs) tile same zero m h b =
      let e : tile 0 ≡ r = same 0 (omega arith) in
      let g : m ≤ copies_for c r = rw e at b in
      let P = pieces (copies_for c r) (pos o) (kept r) in
      let R = run_pieces c (pos o) rs in
      let n : 0 + 0 + m ≡ m = omega arith in
      rw (n, e) (omega (arith, g, length-append P R, length-pieces (copies_for c r) (pos o) (kept r)), at-pieces (copies_for c r) o (kept r) R m g)
  piece-at (r ∷ rs) tile same (suc k) m h b =
      let e : tile 0 ≡ r = same 0 (omega arith) in
      let ih = piece-at rs (λ (j : ℕ). tile (suc j)) (λ j i. same (suc j) (omega (arith, i))) k m (omega (arith, h)) b in
      let P = pieces (copies_for c r) (pos o) (kept r) in
      let R = run_pieces c (pos o) rs in
      let first : extra tile c 0 ≡ copies_for c r = rw e in
      let n : spot tile c (suc k) + m ≡ length P + (spot (λ (j : ℕ). tile (suc j)) c k + m) = omega (arith, first, length-pieces (copies_for c r) (pos o) (kept r)) in
      rw n (omega (arith, ih.0, length-append P R), get_or-append-add P R (spot (λ (j : ℕ). tile (suc j)) c k + m) none ∙ ih.1)

-- ---- a run that is placed
module _ (rtl : Bool) (n c o : ℕ) (x : ℤ) (l : List Record) (tile out : ℕ → Record)
    (many : length l ≡ n) (some : 0 < n)
    (tiles-are : (k : ℕ) → k < length l → tile k ≡ get_or l k blank)
    (outs-are : (k : ℕ) → k < length (run_pieces c (pos o) l) → out k ≡ get_or (placed rtl x (run_pieces c (pos o) l)) k blank) where
  abbrev ps : List Piece
  ps = run_pieces c (pos o) l

  located : (k m : ℕ) → k < n → m ≤ extra tile c k → (spot tile c k + m < length ps) × (get_or ps (spot tile c k + m) none ≡ lapping o (ltb 0 m) (kept (tile k)))
  located k m h b = piece-at c o l tile tiles-are k m (omega (arith, h, many)) b

  kept_there : (k m : ℕ) → k < n → m ≤ extra tile c k → kept (out (spot tile c k + m)) ≡ kept (tile k)
  kept_there k m h b =
      let a = located k m h b in
      ap kept (outs-are (spot tile c k + m) a.0) ∙ placed-kept rtl x ps (spot tile c k + m) a.0 ∙ ap (λ (p : Piece). p.of) a.1

  -- two places, one behind the other
  stands-beside :
      (p : ℕ) → suc p < length ps → (copied copy : Bool) (t u : Tile) → get_or ps p none ≡ lapping o copied t → get_or ps (suc p) none ≡ lapping o copy u
      → (out (suc p)).offset ≡ beside rtl o copied copy (out p) (out (suc p))
  stands-beside p h copied copy t u e f = rw (outs-are p (omega (arith, h)), outs-are (suc p) h) (placed-beside rtl x ps o p h copied copy t u e f)

  copy-there : (k m : ℕ) → k < n → m < extra tile c k → (out (suc (spot tile c k + m))).offset ≡ beside rtl o (ltb 0 m) true (out (spot tile c k + m)) (out (suc (spot tile c k + m)))
  copy-there k m h b =
      let here = located k m h (omega (arith, b)) in
      let there = located k (suc m) h b in
      let s : spot tile c k + suc m ≡ suc (spot tile c k + m) = omega arith in
      let t : (suc (spot tile c k + m) < length ps) × (get_or ps (suc (spot tile c k + m)) none ≡ lapping o (ltb 0 (suc m)) (kept (tile k))) = rw s at there in
      stands-beside (spot tile c k + m) t.0 (ltb 0 m) true (kept (tile k)) (kept (tile k)) here.1 (t.1 ∙ ap (λ (b : Bool). lapping o b (kept (tile k))) (lt-ltb 0 (suc m) (omega arith)))

  next-there : (k : ℕ) → suc k < n → (out (spot tile c (suc k))).offset ≡ beside rtl o (ltb 0 (extra tile c k)) false (out (spot tile c (suc k) - 1)) (out (spot tile c (suc k)))
  next-there k h =
      let p : ℕ = spot tile c k + extra tile c k in
      let here = located k (extra tile c k) (omega (arith, h)) (omega arith) in
      let there = located (suc k) 0 h (omega arith) in
      let s : spot tile c (suc k) ≡ suc p = omega (arith, total-last (extra tile c) k) in
      let z : spot tile c (suc k) + 0 ≡ suc p = omega (arith, s) in
      let b : spot tile c (suc k) - 1 ≡ p = omega (arith, s) in
      let t : (suc p < length ps) × (get_or ps (suc p) none ≡ lapping o false (kept (tile (suc k)))) = rw z at there in
      rw (b, s) (stands-beside p t.0 (ltb 0 (extra tile c k)) false (kept (tile k)) (kept (tile (suc k))) here.1 t.1)

  first-there : (out 0).offset ≡ cond rtl (sat_sub_lem x (out 0).width) x
  first-there =
      let a = located 0 0 some (omega arith) in
      rw (outs-are 0 a.0) (placed_first rtl x ps a.0 (ap (λ (p : Piece). p.lap) a.1))

  pub run-stands : RunStands rtl n c o x tile out
  run-stands = record { same = kept_there; first = first-there; copy = copy-there; next = next-there }
