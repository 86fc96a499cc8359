-- Worked examples of the calls by codes, as document 02's A1 is read: `CodedExample` an input of a call, its number and the line afterwards; `GivesCodes` that the call's statement gives it; `EachCodes` that all of a list do;
-- `between` a setting of these codes; `coded_examples` the list, `CodedExamples` the promise.
-- Assumes nothing.
use Rattle.std.specs.Prelude.{◌≡◌, false, List, [], ◌∷◌, map, ℕ}
use Rattle.refusals.specs.Left.{After}
use Rattle.letters.specs.Categories.{Cf, Lo, Mn, Zs}
use Rattle.letters.specs.Actions.{isol, fina, medi, init, none, repeating}
use Rattle.coded.specs.Coded.{CodedSetting, CodedLine, CodedRequest, coded_letters_of, coded_line_of, coded_request_of, typed_line, join_codes_after, replace_codes_after}
use Rattle.demands.specs.Examples.{features}

-- joining: the setting, the line, the number and the line afterwards; replacing: the request as well
pub data CodedExample : Type 0 where
  JoinsCodes : (given : CodedSetting) → (before : CodedLine) → (number : ℕ) → (after : CodedLine) → CodedExample
  ReplacesCode : (given : CodedSetting) → (asked : CodedRequest) → (before : CodedLine) → (number : ℕ) → (after : CodedLine) → CodedExample

abbrev pub GivesCodes : CodedExample → Type 0
GivesCodes (JoinsCodes s l number m) = join_codes_after s l ≡ After number (typed_line m)
GivesCodes (ReplacesCode s q l number m) = replace_codes_after s q l ≡ After number (typed_line m)

abbrev pub EachCodes : List CodedExample → Type 0
EachCodes [] = Unit
EachCodes (e ∷ es) = GivesCodes e × EachCodes es

-- contexts of these codes, all letters of no case, in a line that is not Mongolian
abbrev pub between : List ℕ → List ℕ → CodedSetting
between pre post =
    record {
      pre = coded_letters_of pre (map (λ c. Lo) pre);
      post = coded_letters_of post (map (λ c. Lo) post);
      features = features;
      mongolian = false;
    }

abbrev pub coded_examples : List CodedExample
coded_examples =
    -- pre-context 0628, line 0627: fina, with no number of a type anywhere
    JoinsCodes (between (0x0628 ∷ []) []) (coded_line_of (0x0627 ∷ []) (Lo ∷ []) (128 ∷ []) (repeating ∷ []) (255 ∷ [])) 0
    (coded_line_of (0x0627 ∷ []) (Lo ∷ []) (128 ∷ []) (fina ∷ []) (130 ∷ [])) ∷
    -- 110000 is accepted; of category Mn it is transparent between two letters, of Lo it parts them
    JoinsCodes (between [] []) (coded_line_of (0x0628 ∷ 0x110000 ∷ 0x0628 ∷ []) (Lo ∷ Mn ∷ Lo ∷ []) (128 ∷ 128 ∷ 128 ∷ []) (none ∷ none ∷ none ∷ []) (0 ∷ 0 ∷ 0 ∷ [])) 0
    (coded_line_of (0x0628 ∷ 0x110000 ∷ 0x0628 ∷ []) (Lo ∷ Mn ∷ Lo ∷ []) (128 ∷ 128 ∷ 128 ∷ []) (init ∷ none ∷ fina ∷ []) (192 ∷ 128 ∷ 130 ∷ [])) ∷
    JoinsCodes (between [] []) (coded_line_of (0x0628 ∷ 0x110000 ∷ 0x0628 ∷ []) (Lo ∷ Lo ∷ Lo ∷ []) (128 ∷ 128 ∷ 128 ∷ []) (none ∷ none ∷ none ∷ []) (0 ∷ 0 ∷ 0 ∷ [])) 0
    (coded_line_of (0x0628 ∷ 0x110000 ∷ 0x0628 ∷ []) (Lo ∷ Lo ∷ Lo ∷ []) (128 ∷ 128 ∷ 128 ∷ []) (isol ∷ none ∷ isol ∷ []) (129 ∷ 128 ∷ 129 ∷ [])) ∷
    -- 200C is listed as U, so it parts two letters as a Cf, too
    JoinsCodes (between [] []) (coded_line_of (0x0628 ∷ 0x200C ∷ 0x0628 ∷ []) (Lo ∷ Cf ∷ Lo ∷ []) (128 ∷ 128 ∷ 128 ∷ []) (none ∷ none ∷ none ∷ []) (0 ∷ 0 ∷ 0 ∷ [])) 0
    (coded_line_of (0x0628 ∷ 0x200C ∷ 0x0628 ∷ []) (Lo ∷ Cf ∷ Lo ∷ []) (128 ∷ 128 ∷ 128 ∷ []) (isol ∷ none ∷ isol ∷ []) (129 ∷ 128 ∷ 129 ∷ [])) ∷
    -- category 30 beside a listed code: 3
    JoinsCodes (between [] []) (coded_line_of (0x0628 ∷ []) (30 ∷ []) (128 ∷ []) (none ∷ []) (0 ∷ [])) 3
    (coded_line_of (0x0628 ∷ []) (30 ∷ []) (128 ∷ []) (none ∷ []) (0 ∷ [])) ∷
    -- 0628 0628 0628, the middle one replaced by 0020: isol none isol
    ReplacesCode (between [] []) (coded_request_of 1 0x0020 Zs) (coded_line_of (0x0628 ∷ 0x0628 ∷ 0x0628 ∷ []) (Lo ∷ Lo ∷ Lo ∷ []) (128 ∷ 128 ∷ 128 ∷ []) (init ∷ medi ∷ fina ∷ []) (192 ∷ 144 ∷ 130 ∷ [])) 0
    (coded_line_of (0x0628 ∷ 0x0020 ∷ 0x0628 ∷ []) (Lo ∷ Zs ∷ Lo ∷ []) (128 ∷ 128 ∷ 128 ∷ []) (isol ∷ none ∷ isol ∷ []) (129 ∷ 128 ∷ 129 ∷ [])) ∷
    []

abbrev pub CodedExamples : Type 0
CodedExamples = EachCodes coded_examples
