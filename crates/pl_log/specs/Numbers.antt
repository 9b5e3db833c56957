-- How numbers are kept in few bytes.
use Rattle.std.specs.Prelude.{ℕ, zero, suc, ◌+◌, ◌-◌, ◌*◌, ◌/◌, ◌%◌, nat_lt, List, [], ◌∷◌, ◌++◌, length, drop, slice_index, Option, Some, None, if◌then◌else◌}

-- the number that stands so many places before the last one; where there are fewer, the first, or 0 if there is none
abbrev pub earlier : List ℕ → ℕ → ℕ
earlier ns back = slice_index ns (length ns - (back + 1))

-- A number that stands near has one byte, 238 and how far before the last one it stands. Any other has one byte if it is below 238,
-- else the byte 254 and two more, or the byte 255 and four more, the highest first.
abbrev pub packed : Option ℕ → ℕ → List ℕ
packed (Some back) n = (238 + back) ∷ []
packed None n =
    if nat_lt n 238 then n ∷ []
    else if nat_lt n 65536 then 254 ∷ n / 256 ∷ n % 256 ∷ []
    else 255 ∷ n / 256 / 256 / 256 ∷ n / 256 / 256 % 256 ∷ n / 256 % 256 ∷ n % 256 ∷ []

-- the number that these bytes begin with, where these numbers stand before it; a byte that is missing is 0
abbrev pub unpacked : List ℕ → List ℕ → ℕ
unpacked ns bytes =
    if nat_lt (slice_index bytes 0) 238 then slice_index bytes 0
    else if nat_lt (slice_index bytes 0) 254 then earlier ns (slice_index bytes 0 - 238)
    else if nat_lt (slice_index bytes 0) 255 then slice_index bytes 1 * 256 + slice_index bytes 2
    else slice_index bytes 1 * 16777216 + slice_index bytes 2 * 65536 + slice_index bytes 3 * 256 + slice_index bytes 4

-- how many bytes that number takes
abbrev pub width : List ℕ → ℕ
width bytes =
    if nat_lt (slice_index bytes 0) 254 then 1
    else if nat_lt (slice_index bytes 0) 255 then 3
    else 5

-- the first numbers of these bytes, as many as are asked for, where these numbers stand before them
abbrev pub all_unpacked : ℕ → List ℕ → List ℕ → List ℕ
all_unpacked zero ns bytes = []
all_unpacked (suc more) ns bytes = unpacked ns bytes ∷ all_unpacked more (ns ++ unpacked ns bytes ∷ []) (drop (width bytes) bytes)
