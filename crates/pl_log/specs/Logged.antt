-- What a log is seen as.
use Rattle.std.specs.Prelude.{◌≡◌, ◌≤◌, ◌^◌, Bool, List, length, All}
use Rattle.std.specs.List.{flat_map}
use Rattle.pl_entry.specs.declared.entry.Entry.{Entry}

-- Its entries, and whether there is a place for one more.
pub record Logged : Type 0 where
  pub entries : List Entry
  pub has_place : Bool

-- the entries of packs, one pack after the other
abbrev pub joined : List (List Entry) → List Entry
joined packs = flat_map (λ pack. pack) packs

-- each pack has 256 entries
abbrev pub AreFull : List (List Entry) → Type 0
AreFull packs = All (λ pack. length pack ≡ 256) packs

-- the packs are full, and entries few enough to be counted
pub record IsSmall (packs : List (List Entry)) (newest : List Entry) : Type 0 where
  pub full : AreFull packs
  pub few : length packs ≤ 2 ^ 32
  pub short : length newest ≤ 256
