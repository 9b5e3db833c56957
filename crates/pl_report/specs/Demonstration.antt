-- The input of the demonstration: a model, then for each number a goal and a tick, then the end.
use Rattle.std.specs.Prelude.{ℕ, ◌+◌, ◌*◌, ◌%◌, ◌==◌, if◌then◌else◌, List, [], ◌∷◌, ◌++◌, flat_map, codes, decimal}
use Rattle.std.specs.List.{range_with_len}
use Rattle.pl_io.specs.Lines.{with_newline}

-- a camera, a battery, and activities that use them, one of which is made of others
abbrev pub model_lines : List (List ℕ)
model_lines =
    codes "horizon 1000000"
    ∷ codes "lead 100"
    ∷ codes "capacity cam 10"
    ∷ codes "level bat 0 1000 500"
    ∷ codes "kind obs { duration 5 use cam 6 lower bat 3 at end }"
    ∷ codes "kind shot { duration 4 use cam 4 }"
    ∷ codes "kind charge { duration 10 raise bat 200 at end }"
    ∷ codes "kind scan { duration 10 alternative { slot a shot slot b shot order a end b start 0 3 } }"
    ∷ codes "begin"
    ∷ []

-- an observation for an odd goal, a scan for an even one
abbrev pub kind_words : ℕ → List ℕ
kind_words i = if i % 2 == 1 then codes " obs " else codes " scan "

-- what is asked for up to 260 behind the moment at which it is asked, and not before 200 behind it
abbrev pub goal_line : ℕ → List ℕ
goal_line i =
    codes "goal " ++ (decimal i ++ (kind_words i ++ (decimal (20 * i + 200) ++ (codes " " ++ (decimal (20 * i + 260) ++ codes " must")))))

-- the moment at which the next goal is asked for
abbrev pub tick_line : ℕ → List ℕ
tick_line i = codes "tick " ++ decimal (20 * i)

abbrev pub messages_for : ℕ → List (List ℕ)
messages_for i = goal_line i ∷ tick_line i ∷ []

abbrev pub demo_lines : ℕ → List (List ℕ)
demo_lines goals = model_lines ++ (flat_map messages_for (range_with_len 1 goals) ++ codes "end" ∷ [])

-- the input for so many goals
unfoldable pub demo_text : ℕ → List ℕ
demo_text goals = flat_map with_newline (demo_lines goals)
