-- Days beside those of closes.
use Rattle.std.specs.Prelude.{ℕ, ℤ, ◌-◌, ◌==◌, ◌&&◌, int_lt, not, Bool, true, if◌then◌else◌}
use Rattle.std.specs.Prelude.{List, slice_get, Option, None}
use Rattle.std.specs.Option.{option_map_or}

-- the day is later than a close, if there was one
abbrev pub is_after : Option ℤ → ℤ → Bool
is_after last day = option_map_or (λ close. int_lt close day) last true

-- the day is no later than a close, if there was one
abbrev pub is_through : Option ℤ → ℤ → Bool
is_through through day = option_map_or (λ close. not (int_lt close day)) through true

-- the day is later than the one close, and no later than the other
abbrev pub is_between : Option ℤ → Option ℤ → ℤ → Bool
is_between last through day = is_after last day && is_through through day

-- the day that the period of a number was closed through, if it was, by the days of the closes
abbrev pub close_of : ℕ → List ℤ → Option ℤ
close_of number closes = if number == 0 then None else slice_get closes (number - 1)
