-- "All sums saturate in 32 bits" (document 01, "Stretching"): `clamped` the nearest number of 32 bits; `sat_add_lem`, `sat_sub_lem` a sum and a difference so taken.
-- Assumes nothing.
use Rattle.std.specs.Prelude.{min, ℤ, pos, negsuc, ◌+ℤ◌, ◌-ℤ◌}

-- the nearest number from -2147483648 to 2147483647; `negsuc n` is -(n + 1)
unfoldable pub clamped : ℤ → ℤ
clamped (pos n) = pos (min n 2147483647)
clamped (negsuc n) = negsuc (min n 2147483647)

unfoldable pub sat_add_lem : ℤ → ℤ → ℤ
sat_add_lem a b = clamped (a +ℤ b)

unfoldable pub sat_sub_lem : ℤ → ℤ → ℤ
sat_sub_lem a b = clamped (a -ℤ b)
