-- Walks along causes, and the places of their points.
use Rattle.std.proofs.Common.{◌≡◌, ◌≢◌, ⊎_elim, ℕ, suc, zero, ◌+◌, ◌<◌, ◌≤◌, List, [], ◌∷◌, ◌++◌, length, get_or, drop, set, Option, Some, None, refl, sym, ◌∙◌, subst, arith, cond}
use Rattle.std.specs.Prelude.{count_by, is_none, slice_index_or}
use Rattle.std.proofs.lemmas.List.{get_or-set_same, get_or-set_other, get_or-drop, get_or_append_left, get_or_push, length-append, length-set, length-drop}
use Rattle.std.proofs.lemmas.Bool.{cases_lt, cases_eq}
use Rattle.std.proofs.lemmas.List.Sums.{sum_by-set, get_or-le-sum_by}
use Rattle.pl_stn.specs.declared.net.Net.{Net}
use Rattle.pl_stn.specs.Nets.{edge_of}
use Rattle.pl_stn.specs.Causes.{EndsFrom, AreCauses, Follows, IsLoop, cause_of}

-- the walk from `start` has come to `point`, and each point that it has passed has its place on it
pub record HasWalked (net : Net) (causes : List (Option ℕ)) (start : ℕ) (places : List (Option ℕ)) (walk : List ℕ) (point : ℕ) : Type 0 where
  pub each_point : length places ≡ net.points
  pub in_range : point < net.points
  pub follows : Follows net causes start walk point
  pub counted : length walk + count_by is_none places ≡ net.points
  pub placed : (i d : ℕ) → i < length walk → slice_index_or places (edge_of net (slice_index_or walk i d)).from None ≡ Some i
  pub passed : (p m : ℕ) → slice_index_or places p None ≡ Some m → (m < length walk) × ((edge_of net (slice_index_or walk m 0)).from ≡ p)

pub follows_push : (net : Net) (causes : List (Option ℕ)) (p : ℕ) (ks : List ℕ) (q k : ℕ) → Follows net causes p ks q → cause_of causes q ≡ Some k → Follows net causes p (ks ++ k ∷ []) (edge_of net k).to
follows_push net causes p [] q k f c = (subst (λ x. cause_of causes x ≡ Some k) (sym f) c, refl)
follows_push net causes p (j ∷ ks) q k f c = (f.0, follows_push net causes (edge_of net j).to ks q k f.1 c)

pub follows_drop : (net : Net) (causes : List (Option ℕ)) → AreCauses net causes → (p : ℕ) (ks : List ℕ) (q m : ℕ) → Follows net causes p ks q → m < length ks → Follows net causes (edge_of net (get_or ks m 0)).from (drop m ks) q
follows_drop net causes a p [] q m f h = absurd (omega arith)
follows_drop net causes a p (k ∷ ks) q zero f h =
    subst (λ x. Follows net causes x (k ∷ ks) q) (sym (a.starts p k f.0).start) f
follows_drop net causes a p (k ∷ ks) q (suc m) f h = follows_drop net causes a (edge_of net k).to ks q m f.1 (omega arith)

-- an item of a list with one more at the end is an item of the list, or the one more
pushed : (P : ℕ → ℕ → Type 0) (ks : List ℕ) (k d : ℕ) → ((i : ℕ) → i < length ks → P i (get_or ks i d)) → P (length ks) k → (i : ℕ) → i < length (ks ++ k ∷ []) → P i (get_or (ks ++ k ∷ []) i d)
pushed P ks k d old new i h =
    ⊎_elim (λ (lt : i < length ks). rw get_or_append_left (old i lt))
    (λ ge. let same : length ks ≡ i = omega (arith, length-append ks (k ∷ [])) in rw (get_or_push ks k d i same) (subst (λ x. P x k) same new))
    (cases_lt i (length ks))

module _ (net : Net) (causes : List (Option ℕ)) (a : AreCauses net causes) (start : ℕ) (places : List (Option ℕ)) (walk : List ℕ) (point : ℕ) (w : HasWalked net causes start places walk point) where
  pub loop_found : (m : ℕ) → slice_index_or places point None ≡ Some m → IsLoop net causes (drop m walk)
  loop_found m h =
      let at = w.passed point m h in
      record {
        some = simp length-drop (omega arith);
        closed = (point, subst (λ x. Follows net causes x (drop m walk) point) at.1 (follows_drop net causes a start walk point m w.follows at.0));
        simple = λ i j d before within same.
            let short : m + j < length walk = omega (arith, length-drop m walk) in
            let first = w.placed (m + i) d (omega arith) in
            let second = w.placed (m + j) d short in
            let read_i = get_or-drop m walk i d in
            let read_j = get_or-drop m walk j d in
            let one : m + i ≡ m + j = cc in
            absurd (omega arith);
      }

  pub walk_room : slice_index_or places point None ≡ None → length walk < net.points
  walk_room h =
      let one = get_or-le-sum_by (λ x. cond (is_none x) 1 0) places point None (omega arith) in
      let unplaced : 1 ≤ count_by is_none places = rw h at one in
      omega arith

  pub walk_on : (k : ℕ) → cause_of causes point ≡ Some k → slice_index_or places point None ≡ None → (edge_of net k).to < net.points → HasWalked net causes start (set places point (Some (length walk))) (walk ++ k ∷ []) (edge_of net k).to
  walk_on k c h r =
      let within : point < length places = omega arith in
      let starts = (a.starts point k c).start in
      record {
        each_point = rw length-set w.each_point;
        in_range = r;
        follows = follows_push net causes start walk point k w.follows c;
        counted =
            let sums = sum_by-set (λ x. cond (is_none x) 1 0) places point (Some (length walk)) None within in
            omega (arith, length-append walk (k ∷ []), rw h at sums);
        placed = λ i d.
            pushed (λ n e. get_or (set places point (Some (length walk))) (edge_of net e).from None ≡ Some n) walk k d
            (λ n lt.
            let old = w.placed n d lt in
            let other : (edge_of net (get_or walk n d)).from ≢ point = λ e. cc in
            rw get_or-set_other old)
            (rw (starts) (get_or-set_same places point (Some (length walk)) None within)) i;
        passed = λ p m e.
            ⊎_elim
            (λ same.
            let read = get_or-set_same places point (Some (length walk)) None within in
            let now : length walk ≡ m = cc in
            (omega (arith, length-append walk (k ∷ [])), rw (get_or_push walk k 0 m now) (starts ∙ sym same)))
            (λ other.
            let old = w.passed p m (rw (get_or-set_other places point p (Some (length walk)) None other) at e) in
            let lt : m < length walk = old.0 in
            (omega (arith, length-append walk (k ∷ [])), rw get_or_append_left old.1))
            (cases_eq p point);
      }

-- n steps along causes lead from `start` to `point`
pub record HasCome (net : Net) (causes : List (Option ℕ)) (start n point : ℕ) : Type 0 where
  pub walk : List ℕ
  pub steps : length walk ≡ n
  pub follows : Follows net causes start walk point
  pub in_range : point < net.points

pub come_on : (net : Net) (causes : List (Option ℕ)) (start n point k : ℕ) → HasCome net causes start n point → cause_of causes point ≡ Some k → (edge_of net k).to < net.points → HasCome net causes start (n + 1) (edge_of net k).to
come_on net causes start n point k h c r = record {
  walk = h.walk ++ k ∷ [];
  steps = omega (arith, h.steps, length-append h.walk (k ∷ []));
  follows = follows_push net causes start h.walk point k h.follows c;
  in_range = r;
}

pub come_to_end : (net : Net) (causes : List (Option ℕ)) (start n point : ℕ) → HasCome net causes start n point → n < net.points → cause_of causes point ≡ None → EndsFrom net causes start
come_to_end net causes start n point h lt e = record {
  walk = h.walk;
  last = point;
  follows = h.follows;
  short = omega (arith, h.steps);
  in_range = h.in_range;
  uncaused = e;
}
