-- The parts of a path as a call names it.
use Rattle.std.specs.Prelude.{ℕ, Bool, false, not, ◌==◌, ◌||◌, nat_lt, List, length, filter, None, codes}
use Rattle.std.specs.List.{last_or, slice_split}
use Rattle.std.specs.Option.{option_map_or}
use Rattle.std.specs.Str.{bytes_eq}

abbrev pub is_slash : ℕ → Bool
is_slash byte = byte == 47

abbrev pub has_bytes : List ℕ → Bool
has_bytes part = not (length part == 0)

-- what stands between the slashes; slashes in a row count as one
abbrev pub components : List ℕ → List (List ℕ)
components path = filter has_bytes (slice_split is_slash path)

-- the greatest length of a name
abbrev pub name_max : ℕ
name_max = 27

abbrev pub is_long : List ℕ → Bool
is_long component = nat_lt name_max (length component)

-- the name of a directory itself, or of its parent
abbrev pub is_dots : List ℕ → Bool
is_dots component = bytes_eq component (codes ".") || bytes_eq component (codes "..")

-- the last component is `.` or `..`
abbrev pub ends_in_dots : List ℕ → Bool
ends_in_dots path = option_map_or is_dots (last_or None (components path)) false
