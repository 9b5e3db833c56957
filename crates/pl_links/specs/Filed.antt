-- Where the indexes file an activity, and what is left where one is gone.
use Rattle.std.specs.Prelude.{◌≡◌, ◌==◌, ◌&&◌, not, if◌then◌else◌, ℕ, Bool, List, All, Option, Some, None}
use Rattle.std.specs.Option.{option_map}
use Rattle.std.specs.Map.{values_of}
use Rattle.pl_model.specs.declared.reservations.Point.{Point}
use Rattle.pl_model.specs.declared.reservations.Point.TheVariants.{Start, End}
use Rattle.pl_model.specs.declared.links.Link.{Link}
use Rattle.pl_links.specs.declared.placed.Placed.{Placed}
use Rattle.pl_links.specs.declared.keys.Key.{Key}
use Rattle.pl_links.specs.declared.asked.AskedPoints.{AskedPoints}
use Rattle.pl_links.specs.declared.files.Files.{Files}
use Rattle.pl_links.specs.Items.{AreRising, AreApart, item_of, with_item, without}
use Rattle.pl_links.specs.Broken.{moment_of, are_apart}
use Rattle.pl_links.specs.Keys.{IsIndexOf, is_other}
use Rattle.pl_links.specs.Asked.{is_asked}

-- a firm activity is filed under its kind, by the moment of its point, where the point is asked for
abbrev pub point_place : AskedPoints → Point → Placed → Option (ℕ × ℕ)
point_place asked point p =
    if is_asked asked point p.kind
    then option_map (λ m. (p.kind, m)) (moment_of point p)
    else None

-- a child is filed under its parent, by its slot
abbrev pub parent_place : Placed → Option (ℕ × ℕ)
parent_place p = p.parent

-- the files are those of the placed activities
pub record AreFiles (items : List Placed) (files : Files) : Type 0 where
  pub starts : IsIndexOf (point_place files.asked Start) items files.starts
  pub ends : IsIndexOf (point_place files.asked End) items files.ends
  pub children : IsIndexOf parent_place items files.children

-- an index stays that of the activities, where this one is not among them
abbrev pub StaysIndex : (Placed → Option (ℕ × ℕ)) → Placed → List Key → List Key → Type 0
StaysIndex place p old new =
    (items : List Placed) → IsIndexOf place items old → item_of p.id items ≡ None
    → IsIndexOf place items new

-- it becomes that of the activities with this one
abbrev pub GrowsIndex : (Placed → Option (ℕ × ℕ)) → Placed → List Key → List Key → Type 0
GrowsIndex place p old new =
    (items : List Placed) → IsIndexOf place items old → item_of p.id items ≡ None
    → IsIndexOf place (with_item p items) new

-- the files stay those of the activities, where this one is not among them
abbrev pub StayFiles : Placed → Files → Files → Type 0
StayFiles p old new =
    (items : List Placed) → AreFiles items old → item_of p.id items ≡ None → AreFiles items new

-- they become those of the activities with this one
abbrev pub GrowFiles : Placed → Files → Files → Type 0
GrowFiles p old new =
    (items : List Placed) → AreFiles items old → item_of p.id items ≡ None
    → AreFiles (with_item p items) new

-- they become those of the activities without this one
abbrev pub ShrinkFiles : Placed → Files → Files → Type 0
ShrinkFiles p old new =
    (items : List Placed) → AreRising items → AreFiles items old → item_of p.id items ≡ Some p
    → AreFiles (without p.id items) new

-- an activity stands under its id
abbrev pub IsUnderId : ℕ × Placed → Type 0
IsUnderId e = e.0 ≡ e.1.id

abbrev pub AreUnderIds : List (ℕ × Placed) → Type 0
AreUnderIds entries = All IsUnderId entries

-- what a store keeps of its activities by id and their files
pub record IsStored (entries : List (ℕ × Placed)) (files : Files) : Type 0 where
  pub under : AreUnderIds entries
  pub rising : AreRising (values_of entries)
  pub apart : AreApart (values_of entries)
  pub filed : AreFiles (values_of entries) files

-- the activities but for one that is gone
abbrev pub left : Option ℕ → List Placed → List Placed
left None items = items
left (Some id) items = without id items

-- another activity is a partner for a link of this one, whose point is at this moment
abbrev pub is_partner_of : Link → ℕ → ℕ → Placed → Bool
is_partner_of link own mine other =
    not (other.id == own)
    && ((other.kind == link.kind)
    && are_apart link.low link.high (Some mine) (moment_of link.theirs other))

-- the same where one activity may be gone
abbrev pub is_partner_but : Link → ℕ → Option ℕ → ℕ → Placed → Bool
is_partner_but link own gone mine other =
    is_other own gone other.id
    && ((other.kind == link.kind)
    && are_apart link.low link.high (Some mine) (moment_of link.theirs other))
