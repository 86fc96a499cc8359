-- When the fallback is used at all: `fallback_on`.
-- Assumes nothing.
use Rattle.std.specs.Prelude.{Bool, ◌&&◌}
use Rattle.fallback.specs.declared.Needs.{Needs}

-- "Fallback is on for the Arabic script if each of isol, fina, medi and init needs it"
abbrev pub fallback_on : Bool → Needs → Bool
fallback_on arabic needs = arabic && (needs.isol && (needs.fina && (needs.medi && needs.init)))
