-- What is written of how far the activities of a plan can move.
use Rattle.std.specs.Prelude.{◌≡◌, ℕ, List, [], ◌∷◌, ◌++◌, length, flat_map, Option, Some, None, codes, decimal}
use Rattle.pl_stn.specs.declared.net.Edge.{Edge}
use Rattle.std.specs.Fmt.{signed_decimal}
use Rattle.pl_semantics.specs.declared.plan_state.PlanState.{PlanState}
use Rattle.pl_flex.specs.declared.window.Window.{Window}
use Rattle.pl_flex.specs.State.{FlexValue}
use Rattle.pl_flex.specs.Windows.{IsLowPath, IsHighPath, window_with}
use Rattle.pl_flex.specs.declared.flexed.Flexed.{Flexed}
use Rattle.pl_flex.specs.declared.flexed.Flexed.TheVariants.{Windows, NoSchedule, TooMany}
use Rattle.pl_flex.specs.Answers.{IsAnswer}
use Rattle.pl_report.specs.Lines.{line_with}

-- flex windows NUMBER
abbrev pub windows_line : List Window → List ℕ
windows_line ws = line_with (codes "flex windows") (decimal (length ws) ∷ [])

-- window ID LEAST GREATEST
abbrev pub window_line : Window → List ℕ
window_line w = line_with (codes "window") (decimal w.id ∷ decimal w.least ∷ decimal w.greatest ∷ [])

-- LABEL FROM TO MOST
abbrev pub edge_line : List ℕ → Edge → List ℕ
edge_line label e = line_with label (decimal e.from ∷ decimal e.to ∷ signed_decimal e.most ∷ [])

abbrev pub edge_lines : List ℕ → List Edge → List ℕ
edge_lines label es = flat_map (edge_line label) es

-- nothing where there is no path
abbrev pub path_lines : List ℕ → Option (List Edge) → List ℕ
path_lines label None = []
path_lines label (Some es) = edge_lines label es

abbrev pub windows_text : List Window → Option (List Edge) → Option (List Edge) → List ℕ
windows_text ws low high = windows_line ws ++ (flat_map window_line ws ++ (path_lines (codes "low") low ++ path_lines (codes "high") high))

-- All windows, and the paths of the activity of this id, where it has a window. There may be several such paths.
pub record IsWindowsText (f : FlexValue) (id : ℕ) (text : List ℕ) : Type 0 where
  pub low : Option (List Edge)
  pub high : Option (List Edge)
  pub low_path : IsLowPath f.net (window_with id f.windows) low
  pub high_path : IsHighPath f.net (window_with id f.windows) high
  pub says : text ≡ windows_text f.windows low high

abbrev pub no_schedule_text : List Edge → List ℕ
no_schedule_text es = codes "flex: no schedule\n" ++ edge_lines (codes "cycle") es

-- the windows; the edges of a negative cycle where there is no schedule; or that the network is too large
abbrev pub IsTextFor : Flexed → ℕ → List ℕ → Type 0
IsTextFor (Windows f) id text = IsWindowsText f id text
IsTextFor (NoSchedule es) id text = text ≡ no_schedule_text es
IsTextFor (TooMany n) id text = text ≡ codes "flex: too many\n"

-- a text of what is answered of the plan
pub record IsFlexText (s : PlanState) (id : ℕ) (text : List ℕ) : Type 0 where
  pub answer : Flexed
  pub is : IsAnswer s answer
  pub says : IsTextFor answer id text
