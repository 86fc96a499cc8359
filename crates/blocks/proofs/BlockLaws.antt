-- Moving marks: an exchange in both columns, and what is left to turn (`Turning`); parts of both columns written anew (`marks_mid`, `marks-put`, `marks-first`); a class written anew
-- (`marks-class`); a part of both turned round (`turned-marks`); a block brought forward by three turns (`brought-forward`).
-- Assumes nothing.
use mathlib.Core.Path.{◌≡◌, refl, sym, ap, ap₂, ◌∙◌}
use mathlib.Core.List.{List, [], ◌∷◌, ◌++◌, reverse, reverse-cons, append-nil}
use Prim.Native.Nat.{ℕ, ◌+◌, ◌-◌, ◌≤◌, ◌<◌}
use native.Mathlib.Omega.{arith}
use borrow.Rule.Slice.PartMut.{put_mid}
use lib.ListN.{length, get_or, take, drop, set, length-set, length-drop, length-reverse, drop_of_length-le}
use lib.Seq.{length-take-le, set-get_or, take_all}
use Rattle.laws.proofs.PartLaws.{turned, turn_rest, turn_more, turn_end, three_turns}
use Rattle.blocks.specs.Marks.{Mark, mark, marks, brought}
use Rattle.blocks.proofs.MarkLaws.{nothing, length-marks, marks-at, marks-set, marks-take, marks-drop, marks-append}

-- columns of which the part from lo to hi is still to turn
pub record Turning (a : ℕ) (codes₀ classes₀ codes classes : List ℕ) (lo hi : ℕ) : Type 0 where
  pub order : lo ≤ hi
  pub fits : hi ≤ length codes₀
  pub codes-keep : length codes ≡ length codes₀
  pub classes-keep : length classes ≡ length classes₀
  pub still : take a (marks codes₀ classes₀) ++ reverse (drop a (marks codes₀ classes₀)) ≡ turned lo hi (marks codes classes)

exchange :
    (codes classes : List ℕ) (lo hi : ℕ) → lo < hi → hi < length codes → length codes ≡ length classes
    → marks (set (set codes lo (get_or codes hi 0)) hi (get_or codes lo 0)) (set (set classes lo (get_or classes hi 0)) hi (get_or classes lo 0))
    ≡ set (set (marks codes classes) lo (get_or (marks codes classes) hi nothing)) hi (get_or (marks codes classes) lo nothing)
exchange codes classes lo hi h g e =
    rw (marks-at codes classes lo nothing (omega arith) e, marks-at codes classes hi nothing g e)
    (marks-set (set codes lo (get_or codes hi 0)) (set classes lo (get_or classes hi 0)) hi (get_or codes lo 0) (get_or classes lo 0)
    ∙ ap (λ (l : List Mark). set l hi (mark (get_or codes lo 0) (get_or classes lo 0))) (marks-set codes classes lo (get_or codes hi 0) (get_or classes hi 0)))

pub turning_begins : (a : ℕ) (codes classes : List ℕ) → length codes ≡ length classes → a ≤ length codes → Turning a codes classes codes classes a (length codes)
turning_begins a codes classes e h =
    let n = length-marks codes classes e in
    record {
      order = h;
      fits = omega arith;
      codes-keep = refl;
      classes-keep = refl;
      still = sym (turn_rest (marks codes classes) a) ∙ ap (λ (k : ℕ). turned a k (marks codes classes)) n;
    }

module _ {a : ℕ} {codes₀ classes₀ codes classes : List ℕ} {lo hi : ℕ} (e : length codes₀ ≡ length classes₀) (p : Turning a codes₀ classes₀ codes classes lo hi) where
  keep : length codes ≡ length classes
  keep = p.codes-keep ∙ e ∙ sym p.classes-keep

  pub turning_on : lo + 1 < hi
      → Turning a codes₀ classes₀
      (set (set codes lo (get_or codes (hi - 1) 0)) (hi - 1) (get_or codes lo 0))
      (set (set classes lo (get_or classes (hi - 1) 0)) (hi - 1) (get_or classes lo 0))
      (lo + 1) (hi - 1)
  turning_on h =
      let k : hi - 1 + 1 ≡ hi = omega arith in
      let n : length (marks codes classes) ≡ length codes = length-marks codes classes keep in
      let f : length codes ≡ length codes₀ = p.codes-keep in
      let g : hi ≤ length codes₀ = p.fits in
      record {
        order = omega arith;
        fits = omega arith;
        codes-keep = simp length-set p.codes-keep;
        classes-keep = simp length-set p.classes-keep;
        still =
            p.still
            ∙ ap (λ (x : ℕ). turned lo x (marks codes classes)) (sym k)
            ∙ turn_more (marks codes classes) lo (hi - 1) nothing (omega arith) (omega arith)
            ∙ ap (turned (lo + 1) (hi - 1)) (sym (exchange codes classes lo (hi - 1) (omega arith) (omega arith) keep));
      }

  pub turning_ends : hi ≤ lo + 1 → marks codes classes ≡ take a (marks codes₀ classes₀) ++ reverse (drop a (marks codes₀ classes₀))
  turning_ends h =
      let n : length (marks codes classes) ≡ length codes = length-marks codes classes keep in
      let f : length codes ≡ length codes₀ = p.codes-keep in
      let g : hi ≤ length codes₀ = p.fits in
      sym (p.still ∙ turn_end (marks codes classes) lo hi p.order h (omega arith))

-- ---- parts of both columns written anew
-- of two columns the part of k records from a on
pub marks_mid : (a k : ℕ) (cs ks : List ℕ) → marks (take k (drop a cs)) (take k (drop a ks)) ≡ take k (drop a (marks cs ks))
marks_mid a k cs ks = marks-take k (drop a cs) (drop a ks) ∙ ap (take k) (marks-drop a cs ks)

-- with that part written anew
pub marks-put :
    (a k : ℕ) (cs ks x y : List ℕ) → a ≤ length cs → length cs ≡ length ks → length x ≡ length y
    → marks (take a cs ++ (x ++ drop k (drop a cs))) (take a ks ++ (y ++ drop k (drop a ks))) ≡ take a (marks cs ks) ++ (marks x y ++ drop k (drop a (marks cs ks)))
marks-put a k cs ks x y h e n =
    marks-append (take a cs) (x ++ drop k (drop a cs)) (take a ks) (y ++ drop k (drop a ks)) (length-take-le a cs h ∙ sym (length-take-le a ks (rw (← e) h)))
    ∙ ap₂ (λ (u v : List Mark). u ++ v) (marks-take a cs ks)
    (marks-append x (drop k (drop a cs)) y (drop k (drop a ks)) n ∙ ap (λ (l : List Mark). marks x y ++ l) (marks-drop k (drop a cs) (drop a ks) ∙ ap (drop k) (marks-drop a cs ks)))

-- with the first n records written anew
pub marks-first :
    (n : ℕ) (cs ks x y : List ℕ) → length x ≡ length y → marks (x ++ drop n cs) (y ++ drop n ks) ≡ marks x y ++ drop n (marks cs ks)
marks-first n cs ks x y e = marks-append x (drop n cs) y (drop n ks) e ∙ ap (λ (l : List Mark). marks x y ++ l) (marks-drop n cs ks)

-- one class written anew
pub marks-class : (cs ks : List ℕ) (i k : ℕ) → marks cs (set ks i k) ≡ set (marks cs ks) i (mark (get_or cs i 0) k)
marks-class cs ks i k = ap (λ (c : List ℕ). marks c (set ks i k)) (sym (set-get_or cs i 0)) ∙ marks-set cs ks i (get_or cs i 0) k

-- ---- a part of both columns turned round
marks-reverse : (cs ks : List ℕ) → length cs ≡ length ks → marks (reverse cs) (reverse ks) ≡ reverse (marks cs ks)
marks-reverse [] [] e = refl
marks-reverse [] (k ∷ ks) e = absurd (omega arith)
marks-reverse (c ∷ cs) [] e = absurd (omega arith)
marks-reverse (c ∷ cs) (k ∷ ks) e =
    let n : length cs ≡ length ks = omega arith in
    rw (reverse-cons c cs, reverse-cons k ks, reverse-cons (mark c k) (marks cs ks))
    (marks-append (reverse cs) (c ∷ []) (reverse ks) (k ∷ []) (length-reverse cs ∙ n ∙ sym (length-reverse ks))
    ∙ ap (λ (l : List Mark). l ++ (mark c k ∷ [])) (marks-reverse cs ks n))

-- the rest of a list, as a loan of it has it
rest-whole : (a : ℕ) (l : List ℕ) → take (length l - a) (drop a l) ≡ drop a l
rest-whole a l = take_all (length l - a) (drop a l) (simp length-drop (omega arith))

pub turned-marks :
    (cs ks x y : List ℕ) (a : ℕ) → length cs ≡ length ks → a ≤ length cs
    → x ≡ reverse (take (length cs - a) (drop a cs)) → y ≡ reverse (take (length ks - a) (drop a ks))
    → marks (put_mid a (length cs - a) cs x) (put_mid a (length ks - a) ks y) ≡ take a (marks cs ks) ++ reverse (drop a (marks cs ks))
turned-marks cs ks x y a e h p q =
    let M : List Mark = marks cs ks in
    let k : length ks - a ≡ length cs - a = omega arith in
    let n : length (drop a cs) ≡ length (drop a ks) = simp length-drop (omega arith) in
    let u : x ≡ reverse (drop a cs) = p ∙ ap (λ (l : List ℕ). reverse l) (rest-whole a cs) in
    let v : y ≡ reverse (drop a ks) = q ∙ ap (λ (l : List ℕ). reverse l) (rest-whole a ks) in
    let whole : marks (reverse (drop a cs)) (reverse (drop a ks)) ≡ reverse (drop a M) = marks-reverse (drop a cs) (drop a ks) n ∙ ap (λ (l : List Mark). reverse l) (marks-drop a cs ks) in
    let short : length (drop a M) ≤ length cs - a = omega (arith, length-drop a M, length-marks cs ks e) in
    let none : drop (length cs - a) (drop a M) ≡ [] = drop_of_length-le _ short in
    rw (k, u, v)
    (marks-put a (length cs - a) cs ks (reverse (drop a cs)) (reverse (drop a ks)) h e (length-reverse (drop a cs) ∙ n ∙ sym (length-reverse (drop a ks)))
    ∙ ap (λ (r : List Mark). take a M ++ r) (ap₂ (λ (r s : List Mark). r ++ s) whole none ∙ append-nil (reverse (drop a M))))

-- ---- a block brought forward
-- the marks from a to n turned round, those from n on turned round, and then all from a on
pub brought-forward :
    (cs ks : List ℕ) (a n : ℕ) → length cs ≡ length ks → a ≤ n → n ≤ length cs
    → (x y : List ℕ) → length x ≡ length y → marks x y ≡ take a (marks (take n cs) (take n ks)) ++ reverse (drop a (marks (take n cs) (take n ks)))
    → (l : List Mark) → l ≡ take n (marks (x ++ drop n cs) (y ++ drop n ks)) ++ reverse (drop n (marks (x ++ drop n cs) (y ++ drop n ks)))
    → take a l ++ reverse (drop a l) ≡ brought a n (marks cs ks)
brought-forward cs ks a n e h g x y s p l q =
    let M : List Mark = marks cs ks in
    let first : marks (x ++ drop n cs) (y ++ drop n ks) ≡ (take a (take n M) ++ reverse (drop a (take n M))) ++ drop n M =
    marks-first n cs ks x y s ∙ ap (λ (r : List Mark). r ++ drop n M) (p ∙ ap (λ (r : List Mark). take a r ++ reverse (drop a r)) (marks-take n cs ks))
    in
    ap (λ (r : List Mark). take a r ++ reverse (drop a r)) (q ∙ ap (λ (r : List Mark). take n r ++ reverse (drop n r)) first) ∙ three_turns M a n h (rw (length-marks cs ks e) g)
