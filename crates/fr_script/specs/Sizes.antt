-- Counting off a limit.
use Rattle.std.specs.Prelude.{◌≡◌, ◌+◌, ◌<◌, ℕ, Option, Some, None}

-- what is left of so many where a count is taken off, and none where the count is more
abbrev pub CountsOff : (limit count : ℕ) → Option ℕ → Type 0
CountsOff limit count (Some left) = left + count ≡ limit
CountsOff limit count None = limit < count
