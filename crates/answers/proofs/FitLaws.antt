-- All that is printed of a text fits `longest` bytes, whatever the text: a row has at most 16, there are at most 512 of them, and the heading has 16.
-- Assumes nothing.
use Rattle.std.specs.Prelude.{Option, None, Some}
use Prim.Native.Nat.{ℕ, zero, suc, ◌+◌, ◌*◌, ◌/◌, ◌%◌, ◌≤◌, ◌<◌}
use mathlib.Core.Bool.{Bool, true, false, cond, ◌&&◌, and-eq-true_iff, false≢true}
use mathlib.Core.List.{List, [], ◌∷◌, ◌++◌}
use mathlib.Core.Path.{◌≡◌, refl, ap, ◌∙◌}
use native.Mathlib.Nat.{min-eq_left}
use native.Mathlib.Omega.{arith}
use lib.Dec.{leb, ltb, leb→le}
use lib.ListN.{length, length-append, length-map}
use lib.Seq.{sets}
use borrow.Author.Tests.{le-leb, leb-true, lt-ltb}
use Rattle.laws.proofs.TableLaws.{below}
use Rattle.entries.specs.declared.Entry.{Entry}
use Rattle.entries.specs.Form.{fields, is_code, is_number, all_digits, value, held, line_of}
use Rattle.texts.specs.Form.{codes_of, widths_of, kinds_of, categories_of, lines, readable, leading, entries}
use Rattle.refusals.specs.Columns.{at_most}
use Rattle.letters.specs.Actions.{none}
use Rattle.letters.specs.Types.{U}
use Rattle.shapes.specs.Joining.{line_types}
use Rattle.shapes.proofs.JoiningLaws.{each-most}
use Rattle.lines.specs.Held.{letters_of}
use Rattle.lines.specs.Joined.{known_letters_lem}
use Rattle.printing.specs.Printed.{glyph, numeral, places, decimal, names, name_of, row, rows, heading, printed, unreadable_text, refused_text}
use Rattle.printing.specs.Writing.{Wrote, filled}
use Rattle.answers.specs.Output.{limit, longest, line_text, entry_text, output}

length-numeral : (base w n : ℕ) → length (numeral base w n) ≡ w
length-numeral base zero n = refl
length-numeral base (suc w) n =
    length-append (numeral base w (n / base)) (glyph (n % base) ∷ []) ∙ omega (arith, length-numeral base w (n / base))

places-three : (n : ℕ) → n < 1000 → places n ≤ 3
unfolding places
places-three n h = go (ltb n 10) (ltb n 100) (ltb n 1000) (lt-ltb n 1000 h)
  where
    go : (a b c : Bool) → c ≡ true → cond a 1 (cond b 2 (cond c 3 (cond (ltb n 10000) 4 5))) ≤ 3
    go true b c e = omega arith
    go false true c e = omega arith
    go false false true e = omega arith
    go false false false e = absurd (false≢true e)

name_four : (action : ℕ) → action ≤ none → length (name_of action) ≤ 4
unfolding names
name_four action h = leb→le _ _ (below 8 (λ a. leb (length (name_of a)) 4) tt action (omega arith))

length-row : (place code width action : ℕ) → length (row place code width action) ≡ places place + (1 + (width + (1 + (length (name_of action) + 1))))
unfolding row
length-row place code width action =
    let end : List ℕ = 10 ∷ [] in
    let name : List ℕ = name_of action ++ end in
    let digits : List ℕ = numeral 16 width code ++ (32 ∷ name) in
    length-append (decimal place) (32 ∷ digits) ∙ omega (arith, length-numeral 10 (places place) place, length-append (numeral 16 width code) (32 ∷ name), length-numeral 16 width code, length-append (name_of action) end)

row_fits : (place code width action : ℕ) → place < 1000 → width ≤ 6 → action ≤ none → length (row place code width action) ≤ 16
row_fits place code width action hp hw ha = omega (arith, length-row place code width action, places-three place hp, name_four action ha)

rows_fit :
    (place : ℕ) (cs ws xs : List ℕ) → place + length cs ≤ 1000 → at_most 6 ws ≡ true → at_most none xs ≡ true → length (rows place cs ws xs) ≤ length cs * 16
rows_fit place [] ws xs h hw hx = omega arith
rows_fit place (c ∷ cs) [] xs h hw hx = omega arith
rows_fit place (c ∷ cs) (w ∷ ws) [] h hw hx = omega arith
rows_fit place (c ∷ cs) (w ∷ ws) (x ∷ xs) h hw hx =
    let a = (and-eq-true_iff (leb w 6) (at_most 6 ws)).0 hw in
    let b = (and-eq-true_iff (leb x none) (at_most none xs)).0 hx in
    let front = row_fits place c w x (omega arith) (leb-true w 6 a.0) (leb-true x none b.0) in
    let behind = rows_fit (place + 1) cs ws xs (omega arith) a.1 b.1 in
    omega (arith, length-append (row place c w x) (rows (place + 1) cs ws xs), front, behind)

-- ---- the entries of a text
-- a code that is read was typed with at most six digits
abbrev Six : Option Entry → Type 0
Six None = Unit
Six (Some e) = e.width ≤ 6

code_six : (c : List ℕ) → is_code c ≡ true → length c ≤ 6
unfolding is_code
code_six c h =
    let a = (and-eq-true_iff (leb 4 (length c)) (leb (length c) 6 && all_digits 16 c)).0 h in
    leb-true (length c) 6 ((and-eq-true_iff (leb (length c) 6) (all_digits 16 c)).0 a.1).0

line_six : (fs : List (List ℕ)) → Six (line_of fs)
line_six [] = tt
line_six (c ∷ []) = tt
line_six (c ∷ (t ∷ [])) = tt
line_six (c ∷ (t ∷ (g ∷ []))) = go (is_code c && (is_number t && is_number g)) refl
  where
    go :
        (b : Bool) → (is_code c && (is_number t && is_number g)) ≡ b
        → Six (cond b (Some (record { code = value 16 c; width = length c; kind = held t; category = held g })) None)
    go true e = code_six c ((and-eq-true_iff (is_code c) (is_number t && is_number g)).0 e).0
    go false e = tt
line_six (c ∷ (t ∷ (g ∷ (x ∷ xs)))) = tt

widths_six : (ls : List (List ℕ)) → at_most 6 (widths_of (entries ls)) ≡ true
widths_six [] = refl
widths_six (l ∷ ls) = go (line_of (fields l)) (line_six (fields l)) (widths_six ls)
  where
    go :
        (x : Option Entry) → Six x → at_most 6 (widths_of (entries ls)) ≡ true
        → at_most 6 (widths_of (leading x (entries ls))) ≡ true
    go None h ih = refl
    go (Some e) h ih = simp (le-leb e.width 6 h) ih

entries-few : (ls : List (List ℕ)) → length (entries ls) ≤ length ls
entries-few [] = omega arith
entries-few (l ∷ ls) = go (line_of (fields l)) (entries-few ls)
  where
    go : (x : Option Entry) → length (entries ls) ≤ length ls → length (leading x (entries ls)) ≤ suc (length ls)
    go None ih = omega arith
    go (Some e) ih = omega arith

-- ---- all that is printed
choice_fits : (b : Bool) (x y : List ℕ) → length x ≤ longest → length y ≤ longest → length (cond b x y) ≤ longest
choice_fits true x y hx hy = hx
choice_fits false x y hx hy = hy

printed-fits :
    (cs ws xs : List ℕ) → length cs ≤ limit → at_most 6 ws ≡ true → at_most none xs ≡ true → length (printed cs ws xs) ≤ longest
unfolding printed
printed-fits cs ws xs h hw hx = omega (arith, length-append heading (rows 0 cs ws xs), rows_fit 0 cs ws xs (omega arith) hw hx)

refused_fits : (k : ℕ) → k < 10 → length (refused_text k) ≤ longest
unfolding refused_text places
refused_fits k h = leb→le _ _ (below 10 (λ n. leb (length (refused_text n)) longest) tt k h)

entries_fit : (es : List Entry) → length es ≤ limit → at_most 6 (widths_of es) ≡ true → length (entry_text es) ≤ longest
unfolding line_text
entries_fit es h hw =
    let codes = codes_of es in
    let types = kinds_of es in
    let categories = categories_of es in
    let few : length codes ≤ limit = omega (arith, length-map es (λ (e : Entry). e.code)) in
    choice_fits (known_letters_lem (letters_of types categories)) _ (refused_text 3) (printed-fits codes _ _ few hw (each-most U (line_types types categories) U)) (refused_fits 3 (omega arith))

pub output-fits : (text : List ℕ) → length (output text) ≤ longest
unfolding output
output-fits text = choice_fits (readable (lines text)) _ unreadable_text (go (leb (length (lines text)) limit) refl) (omega arith)
  where
    go : (b : Bool) → leb (length (lines text)) limit ≡ b → length (cond b (entry_text (entries (lines text))) (refused_text 2)) ≤ longest
    go true e = entries_fit (entries (lines text)) (omega (arith, leb-true (length (lines text)) limit e, entries-few (lines text))) (widths_six (lines text))
    go false e = refused_fits 2 (omega arith)

-- so memory of that length has all of it, and the answer says its length
pub filled-whole : (out text : List ℕ) → longest ≤ length out → filled out (output text) ≡ Wrote (sets out 0 (output text)) (length (output text))
filled-whole out text h =
    ap (Wrote (sets out 0 (output text))) (min-eq_left {n = length (output text)} {m = length out} (omega (arith, output-fits text)))
