-- Activities by id, where one may be gone, and what the indexes say of them.
use Rattle.std.proofs.Common.{◌≡◌, ℕ, ◌<◌, eqb, Bool, true, false, cond, List, [], ◌∷◌, length, get_or, Option, Some, None, refl, sym, ap, ◌∙◌, subst, arith, rules}
use Rattle.std.specs.Prelude.{◌&&◌, not, All, Contains, ℤ}
use Rattle.std.specs.Option.{option_map}
use Rattle.std.specs.List.{list_any}
use Rattle.std.proofs.lemmas.List.Folds.{list_any_none}
use Rattle.std.proofs.lemmas.Bool.{and_parts, and_from, eqb-true, eqb-false, eq-eqb, ne_eqb, not-true, not_from_false, and_right}
use Rattle.std.proofs.lemmas.List.Elements.{All-contains, Contains-append_right}
use Rattle.std.proofs.Math.Bool.{and-true}
use Rattle.pl_lists.proofs.Tests.{same_test}
use Rattle.pl_model.specs.declared.reservations.Point.{Point}
use Rattle.pl_model.specs.declared.links.Link.{Link}
use Rattle.pl_links.specs.declared.asked.AskedPoints.{AskedPoints}
use Rattle.pl_links.specs.declared.keys.Key.{Key}
use Rattle.pl_links.specs.declared.placed.Placed.{Placed}
use Rattle.pl_links.specs.Items.{is_slot, AreRising, AreApart, item_of, without, child_of}
use Rattle.pl_links.specs.Broken.{moment_of, is_apart, are_apart, is_partner}
use Rattle.pl_links.specs.Keys.{has_key, is_filed, is_other, IsIndexOf}
use Rattle.pl_links.specs.Asked.{is_asked}
use Rattle.pl_links.specs.Filed.{point_place, parent_place, left, is_partner_of, is_partner_but}
use Rattle.pl_links.proofs.Ids.{found_at, rising-without}
use Rattle.pl_links.proofs.Slots.{apart-without, only_child, place_is, slot_is}
use Rattle.pl_links.proofs.Filed.{item-without}
use Rattle.pl_links.proofs.Anys.{any_from, any_found}
use Rattle.pl_links.proofs.Keyed.{key, contained, has_contained}

pub rising-left : (gone : Option ℕ) (items : List Placed) → AreRising items → AreRising (left gone items)
rising-left None items rising = rising
rising-left (Some id) items rising = rising-without id 0 items rising

pub apart-left : (gone : Option ℕ) (items : List Placed) → AreApart items → AreApart (left gone items)
apart-left None items apart = apart
apart-left (Some id) items apart = apart-without id items apart

-- ---- by id

pub item_is : (id : ℕ) (items : List Placed) (p : Placed) → item_of id items ≡ Some p → Contains items p × (p.id ≡ id)
item_is id [] p e = absurd (cc)
item_is id (x ∷ items) p e = cases (eqb x.id id) refl (item_is id items p)
  where
    cases : (b : Bool) → eqb x.id id ≡ b → (item_of id items ≡ Some p → Contains items p × (p.id ≡ id)) → Contains (x ∷ items) p × (p.id ≡ id)
    cases true t more =
        let same : Some x ≡ Some p = rw t at e in
        let is : x ≡ p = cc in
        (subst (λ y. Contains (x ∷ items) y) is (0, omega arith, refl), subst (λ y. y.id ≡ id) is (eqb-true x.id id t))
    cases false t more =
        let rest : item_of id items ≡ Some p = rw t at e in
        let found = more rest in
        (Contains-append_right (x ∷ []) items p found.0, found.1)

pub item_here : (items : List Placed) (p : Placed) → AreRising items → Contains items p → item_of p.id items ≡ Some p
item_here items p rising within =
    let all : All (λ x. item_of x.id items ≡ Some x) items = λ i d lt. found_at items 0 i (get_or items i d).id d rising lt refl in
    All-contains (λ x. item_of x.id items ≡ Some x) items p all within

pub left_within : (gone : Option ℕ) (id : ℕ) (items : List Placed) (p : Placed) → AreRising items → item_of id (left gone items) ≡ Some p → item_of id items ≡ Some p
left_within None id items p rising e = e
left_within (Some g) id items p rising e = cases (eqb g id) refl (sym (item-without g id 0 items rising) ∙ e)
  where
    cases : (b : Bool) → eqb g id ≡ b → cond b None (item_of id items) ≡ Some p → item_of id items ≡ Some p
    cases true t h = absurd (let bad : None ≡ Some p = h in (cc))
    cases false t h = h

-- it is not the one that is gone
abbrev pub is_left : Option ℕ → ℕ → Bool
is_left None id = true
is_left (Some g) id = not (eqb id g)

pub left_stays : (gone : Option ℕ) (id : ℕ) (items : List Placed) → AreRising items → is_left gone id ≡ true → item_of id (left gone items) ≡ item_of id items
left_stays None id items rising e = refl
left_stays (Some g) id items rising e =
    let apart : eqb g id ≡ false = ne_eqb g id (λ f. eqb-false id g (not-true (eqb id g) e) (sym f)) in
    item-without g id 0 items rising ∙ rw apart refl

pub left_is_left : (gone : Option ℕ) (id : ℕ) (items : List Placed) (p : Placed) → AreRising items → item_of id (left gone items) ≡ Some p → is_left gone id ≡ true
left_is_left None id items p rising e = refl
left_is_left (Some g) id items p rising e = cases (eqb g id) refl (sym (item-without g id 0 items rising) ∙ e)
  where
    cases : (b : Bool) → eqb g id ≡ b → cond b None (item_of id items) ≡ Some p → not (eqb id g) ≡ true
    cases true t h = absurd (let bad : None ≡ Some p = h in (cc))
    cases false t h = not_from_false (eqb id g) (ne_eqb id g (λ f. eqb-false g id t (sym f)))

pub other_is : (own : ℕ) (gone : Option ℕ) (id : ℕ) → is_other own gone id ≡ (not (eqb id own) && is_left gone id)
other_is own None id = sym (and-true (not (eqb id own)))
other_is own (Some g) id = refl

-- ---- what an index says

pub filed_is : (place : Placed → Option (ℕ × ℕ)) (o : Option Placed) (k : Key) → is_filed place o k ≡ true → (p : Placed) × (o ≡ Some p) × (place p ≡ Some (k.group, k.number))
filed_is place None k e = absurd (let h : false ≡ true = e in (cc))
filed_is place (Some p) k e = (p, refl, place_is k.group k.number (place p) e)

pub has_filed : (place : Placed → Option (ℕ × ℕ)) (items : List Placed) (keys : List Key) (group number : ℕ) (p : Placed) → IsIndexOf place items keys → item_of p.id items ≡ Some p → place p ≡ Some (group, number) → has_key (key group number p.id) keys ≡ true
has_filed place items keys group number p index here is =
    index (key group number p.id) ∙ rw here (slot_is group number (place p) is)

-- ---- the child in a slot

module _ (gone : Option ℕ) (items : List Placed) (children : List Key) (rising : AreRising items) (apart : AreApart items) (index : IsIndexOf parent_place items children) (parent slot : ℕ) where
  child_in : (q : Placed) → child_of parent slot (left gone items) ≡ Some q → (item_of q.id (left gone items) ≡ Some q) × (q.parent ≡ Some (parent, slot))
  child_in q e =
      let within = (only_child (left gone items) (apart-left gone items apart) parent slot q).0 e in
      (item_here (left gone items) q (rising-left gone items rising) within.0, within.1)

  one_child : (p q : Placed) → item_of p.id items ≡ Some p → p.parent ≡ Some (parent, slot) → item_of q.id items ≡ Some q → q.parent ≡ Some (parent, slot) → p ≡ q
  one_child p q one first two second =
      let found_p : child_of parent slot items ≡ Some p = (only_child items apart parent slot p).1 ((item_is p.id items p one).0, first) in
      let found_q : child_of parent slot items ≡ Some q = (only_child items apart parent slot q).1 ((item_is q.id items q two).0, second) in
      let same : Some p ≡ Some q = sym found_p ∙ found_q in
      cc

  pub child_none : ((id : ℕ) → has_key (key parent slot id) children ≡ false) → None ≡ child_of parent slot (left gone items)
  child_none none = cases (child_of parent slot (left gone items)) refl
    where
      cases : (o : Option Placed) → child_of parent slot (left gone items) ≡ o → None ≡ child_of parent slot (left gone items)
      cases None e = sym e
      cases (Some q) e =
          let found = child_in q e in
          let has = has_filed parent_place items children parent slot q index (left_within gone q.id items q rising found.0) found.1 in
          let bad : false ≡ true = sym (none q.id) ∙ has in
          absurd (cc)

  pub child_some : (id : ℕ) → has_key (key parent slot id) children ≡ true → item_of id (left gone items) ≡ child_of parent slot (left gone items)
  child_some id has =
      let filed = filed_is parent_place (item_of id items) (key parent slot id) (sym (index (key parent slot id)) ∙ has) in
      cases filed.0 filed.1 filed.2 (item_of id (left gone items)) refl
    where
      none : (p : Placed) → item_of id items ≡ Some p → p.parent ≡ Some (parent, slot) → item_of id (left gone items) ≡ None → (o : Option Placed) → child_of parent slot (left gone items) ≡ o → item_of id (left gone items) ≡ child_of parent slot (left gone items)
      none p here is gone_is None e = gone_is ∙ sym e
      none p here is gone_is (Some q) e =
          let found = child_in q e in
          let at : p.id ≡ id = (item_is id items p here).1 in
          let same = one_child p q (subst (λ i. item_of i items ≡ Some p) (sym at) here) is (left_within gone q.id items q rising found.0) found.1 in
          let is_id : q.id ≡ id = ap (λ (x : Placed). x.id) (sym same) ∙ at in
          let bad : None ≡ Some q = sym gone_is ∙ subst (λ i. item_of i (left gone items) ≡ Some q) is_id found.0 in
          absurd (cc)

      cases : (p : Placed) → item_of id items ≡ Some p → p.parent ≡ Some (parent, slot) → (o : Option Placed) → item_of id (left gone items) ≡ o → item_of id (left gone items) ≡ child_of parent slot (left gone items)
      cases p here is None e = none p here is e (child_of parent slot (left gone items)) refl
      cases p here is (Some q) e =
          let same : Some q ≡ Some p = sym (left_within gone id items q rising e) ∙ here in
          let is_p : q ≡ p = cc in
          e ∙ sym ((only_child (left gone items) (apart-left gone items apart) parent slot q).1 ((item_is id (left gone items) q e).0, ap (λ (x : Placed). x.parent) is_p ∙ is))

-- ---- a partner

pub point_is : (asked : AskedPoints) (point : Point) (p : Placed) (group number : ℕ) → point_place asked point p ≡ Some (group, number) → (p.kind ≡ group) × (moment_of point p ≡ Some number)
point_is asked point p group number = filed (is_asked asked point p.kind)
  where
    cases : (o : Option ℕ) → option_map {U = ℕ × ℕ} (λ m. (p.kind, m)) o ≡ Some (group, number) → (p.kind ≡ group) × (o ≡ Some number)
    cases None e = absurd (let h : None ≡ Some (group, number) = e in (cc))
    cases (Some m) e =
        let h : Some (p.kind, m) ≡ Some (group, number) = e in
        let same : (p.kind, m) ≡ (group, number) = cc in
        (ap (λ (q : ℕ × ℕ). q.0) same, ap (λ (q : ℕ × ℕ). Some q.1) same)

    filed : (b : Bool) → cond b (option_map {U = ℕ × ℕ} (λ m. (p.kind, m)) (moment_of point p)) None ≡ Some (group, number) → (p.kind ≡ group) × (moment_of point p ≡ Some number)
    filed false e = absurd (let h : None ≡ Some (group, number) = e in (cc))
    filed true e = cases (moment_of point p) e

pub place_at : (asked : AskedPoints) (point : Point) (p : Placed) (number : ℕ) → is_asked asked point p.kind ≡ true → moment_of point p ≡ Some number → point_place asked point p ≡ Some (p.kind, number)
place_at asked point p number on e = rw on (ap (option_map {U = ℕ × ℕ} (λ m. (p.kind, m))) e)

-- what the moments of a partner tell
pub moments_are : (low high : ℤ) (mine : ℕ) (o : Option ℕ) → are_apart low high (Some mine) o ≡ true → (m : ℕ) × (o ≡ Some m) × (is_apart low high mine m ≡ true)
moments_are low high mine None e = absurd (let h : false ≡ true = e in (cc))
moments_are low high mine (Some m) e = (m, refl, e)

abbrev pub partners : ℕ → ℕ → ℤ → ℤ → ℕ → Point → Placed → Bool
partners own kind low high mine point other = not (eqb other.id own) && (eqb other.kind kind && are_apart low high (Some mine) (moment_of point other))

module _ (gone : Option ℕ) (items : List Placed) (keys : List Key) (rising : AreRising items) (asked : AskedPoints) (point : Point) (index : IsIndexOf (point_place asked point) items keys) (own kind mine : ℕ) (on : is_asked asked point kind ≡ true) (low high : ℤ) where
  abbrev passes : Key → Bool
  passes k = (eqb k.group kind && is_apart low high mine k.number) && is_other own gone k.id

  key_partner : (k : Key) → has_key k keys ≡ true → passes k ≡ true → list_any (partners own kind low high mine point) (left gone items) ≡ true
  key_partner k has e =
      let parts = and_parts (eqb k.group kind && is_apart low high mine k.number) (is_other own gone k.id) e in
      let lies = and_parts (eqb k.group kind) (is_apart low high mine k.number) parts.0 in
      let other = and_parts (not (eqb k.id own)) (is_left gone k.id) (sym (other_is own gone k.id) ∙ parts.1) in
      let filed = filed_is (point_place asked point) (item_of k.id items) k (sym (index k) ∙ has) in
      let p = filed.0 in
      let at = point_is asked point p k.group k.number filed.2 in
      let here : item_of k.id (left gone items) ≡ Some p = left_stays gone k.id items rising other.1 ∙ filed.1 in
      let is = item_is k.id (left gone items) p here in
      let kind_is : eqb p.kind kind ≡ true = ap (λ n. eqb n kind) at.0 ∙ lies.0 in
      let apart : are_apart low high (Some mine) (moment_of point p) ≡ true = rw at.1 lies.1 in
      any_from (partners own kind low high mine point) (left gone items) p is.0
      (and_from (not (eqb p.id own)) (eqb p.kind kind && are_apart low high (Some mine) (moment_of point p)) (ap (λ n. not (eqb n own)) is.1 ∙ other.0)
      (and_from (eqb p.kind kind) (are_apart low high (Some mine) (moment_of point p)) kind_is apart))

  partner_key : (p : Placed) → Contains (left gone items) p → partners own kind low high mine point p ≡ true → list_any passes keys ≡ true
  partner_key p within e =
      let parts = and_parts (not (eqb p.id own)) (eqb p.kind kind && are_apart low high (Some mine) (moment_of point p)) e in
      let more = and_parts (eqb p.kind kind) (are_apart low high (Some mine) (moment_of point p)) parts.1 in
      let moments = moments_are low high mine (moment_of point p) more.1 in
      let here : item_of p.id (left gone items) ≡ Some p = item_here (left gone items) p (rising-left gone items rising) within in
      let k = key p.kind moments.0 p.id in
      let filed : is_asked asked point p.kind ≡ true = ap (is_asked asked point) (eqb-true p.kind kind more.0) ∙ on in
      let has = has_filed (point_place asked point) items keys p.kind moments.0 p index (left_within gone p.id items p rising here) (place_at asked point p moments.0 filed moments.1) in
      any_from passes keys k (contained k keys has)
      (and_from (eqb p.kind kind && is_apart low high mine moments.0) (is_other own gone p.id)
      (and_from (eqb p.kind kind) (is_apart low high mine moments.0) more.0 moments.2)
      (other_is own gone p.id ∙ and_from (not (eqb p.id own)) (is_left gone p.id) parts.0 (left_is_left gone p.id items p rising here)))

  pub partner_found : list_any (λ k. (eqb k.group kind && is_apart low high mine k.number) && is_other own gone k.id) keys ≡ list_any (partners own kind low high mine point) (left gone items)
  partner_found =
      same_test (list_any passes keys) (list_any (partners own kind low high mine point) (left gone items))
      (λ e. let found = any_found passes keys e in key_partner found.0 (has_contained found.0 keys found.1) found.2)
      (λ e. let found = any_found (partners own kind low high mine point) (left gone items) e in partner_key found.0 found.1 found.2)

-- the walk leaves out the one that is gone
module _ (link : Link) (own : ℕ) (gone : Option ℕ) (mine : ℕ) where
  but_is : (p : Placed) → is_partner_but link own gone mine p ≡ (is_left gone p.id && is_partner_of link own mine p)
  but_is p =
      rw (other_is own gone p.id) (turned (not (eqb p.id own)) (is_left gone p.id) (eqb p.kind link.kind && are_apart link.low link.high (Some mine) (moment_of link.theirs p)))
    where
      turned : (a b c : Bool) → ((a && b) && c) ≡ (b && (a && c))
      turned true b c = refl
      turned false true c = refl
      turned false false c = refl

  pub partner_walked : (items : List Placed) → AreRising items → list_any (is_partner_but link own gone mine) items ≡ list_any (is_partner_of link own mine) (left gone items)
  partner_walked items rising =
      same_test (list_any (is_partner_but link own gone mine) items) (list_any (is_partner_of link own mine) (left gone items))
      (λ e.
      let found = any_found (is_partner_but link own gone mine) items e in
      let p = found.0 in
      let both = and_parts (is_left gone p.id) (is_partner_of link own mine p) (sym (but_is p) ∙ found.2) in
      let is = item_is p.id (left gone items) p (left_stays gone p.id items rising both.0 ∙ item_here items p rising found.1) in
      any_from (is_partner_of link own mine) (left gone items) p is.0 both.1)
      (λ e.
      let found = any_found (is_partner_of link own mine) (left gone items) e in
      let p = found.0 in
      let here = item_here (left gone items) p (rising-left gone items rising) found.1 in
      let is = item_is p.id items p (left_within gone p.id items p rising here) in
      any_from (is_partner_but link own gone mine) items p is.0
      (but_is p ∙ and_from (is_left gone p.id) (is_partner_of link own mine p) (left_is_left gone p.id items p rising here) found.2))

-- an activity that is not firm has none
no_partner : (link : Link) (own other : Placed) → moment_of link.mine own ≡ None → is_partner link own other ≡ false
no_partner link own other none = rw none (and_right (not (eqb other.id own.id)) (eqb other.kind link.kind && false) (and_right (eqb other.kind link.kind) false refl))

pub no_partners : (link : Link) (own : Placed) (items : List Placed) → moment_of link.mine own ≡ None → list_any (is_partner link own) items ≡ false
no_partners link own items none = list_any_none (is_partner link own) items (λ i d lt. no_partner link own (get_or items i d) none)
