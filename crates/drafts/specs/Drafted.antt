-- A plan while it is made: `begun` a draft without entries; `noted` a draft with an entry more; `Drafted` that a draft and the bytes beside it hold certain entries; `Reached` how far a plan has come that is made of several lookups; `Roomy` what is asked of a draft that is to have one more; `Added` that entries were added to whatever entries there were, with at most so many bytes.
-- Assumes nothing.
use Rattle.std.specs.Prelude.{◌≡◌, List, ◌++◌, ℕ, ◌+◌, ◌<◌, ◌≤◌, length, take, set}
use Rattle.layouts.specs.declared.Kind.{Kind}
use Rattle.drafts.specs.declared.Draft.{Draft}
use Rattle.drafts.specs.Entries.{Entry, all_bytes, seven, masks_of, lengths_of, most}

abbrev pub begun : Draft
begun = record { count = 0; end = 0; masks = seven; lengths = seven }

-- an entry more, whose lookup has n bytes
abbrev pub noted : Draft → ℕ → ℕ → Draft
noted d mask n = record { count = d.count + 1; end = d.end + n; masks = set d.masks d.count mask; lengths = set d.lengths d.count n }

-- the draft d has these entries, and their bytes stand at the start of `scratch`
pub record Drafted (entries : List Entry) (d : Draft) (scratch : List ℕ) : Type 0 where
  pub counted : d.count ≡ length entries
  pub masked : d.masks ≡ masks_of entries
  pub measured : d.lengths ≡ lengths_of entries
  pub ends : d.end ≡ length (all_bytes entries)
  pub holds : take d.end scratch ≡ all_bytes entries

-- a draft has these entries, at most so many, of at most so many bytes, in memory of a certain size
pub record Reached (entries : List Entry) (count bytes size : ℕ) (d : Draft) (scratch : List ℕ) : Type 0 where
  pub few : d.count ≤ count
  pub short : d.end ≤ bytes
  pub sized : length scratch ≡ size
  pub drafted : Drafted entries d scratch

-- there is a place for one more entry, and room for any lookup of its kind
pub record Roomy (kind : Kind) (d : Draft) (scratch : List ℕ) : Type 0 where
  pub place : d.count < 7
  pub room : d.end + most kind ≤ length scratch
  pub bounded : length scratch < 4294967296

-- whatever the draft had, it has the new entries behind it: one at most, of at most `most` bytes
pub record Added (new : List Entry) (most : ℕ) (d : Draft) (scratch : List ℕ) (d' : Draft) (scratch' : List ℕ) : Type 0 where
  pub few : d'.count ≤ d.count + 1
  pub short : d'.end ≤ d.end + most
  pub then : (entries : List Entry) → Drafted entries d scratch → Drafted (entries ++ new) d' scratch'
