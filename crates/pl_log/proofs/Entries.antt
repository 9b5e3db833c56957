-- An entry that was packed is unpacked again.
use Rattle.std.proofs.Common.{◌≡◌, ◌+◌, ◌-◌, ◌<◌, ◌≤◌, ◌++◌, ◌∙◌, refl, ap, sym, ℕ, ℤ, suc, List, [], ◌∷◌, length, get_or, drop, Option, Some, None, ltb, arith, append_assoc, take_at, drop_at}
use Rattle.std.specs.List.{flat_map}
use Rattle.std.proofs.lemmas.Bool.{cond_both}
use Rattle.std.proofs.lemmas.List.{drop_more}
use Rattle.pl_conflict.specs.declared.conflict.Conflict.{Conflict}
use Rattle.pl_plan.specs.declared.repair.RepairMove.{RepairMove}
use Rattle.pl_plan.specs.declared.repair.RepairMove.TheVariants as repair
use Rattle.pl_entry.specs.declared.event.Event.{Event}
use Rattle.pl_entry.specs.declared.event.Event.TheVariants as event
use Rattle.pl_entry.specs.declared.reply.Reply.{Reply}
use Rattle.pl_entry.specs.declared.reply.Reply.TheVariants as reply
use Rattle.pl_entry.specs.declared.entry.Entry.{Entry}
use Rattle.pl_log.specs.declared.form.Form.{Form}
use Rattle.pl_log.specs.declared.parts.Parts.{Parts}
use Rattle.pl_log.specs.Packing.{Packed, Adds, kept, fix_of, message_of, command_of, packed_by, packed_of}
use Rattle.pl_log.specs.Unpacking.{entry_in, numbers_of, bytes_of, values_of, whole_of, entries_in}
use Rattle.pl_log.proofs.Adding.{next_added, all_added}

-- what is packed gives the entry, and leaves what stands behind it
pub record Gives (p : Packed) (e : Entry) (ns bs : List ℕ) (vs : List (Option ℤ)) (ws : List Entry) : Type 0 where
  pub entry : entry_in p.form (p.numbers ++ ns) (p.bytes ++ bs) (p.values ++ vs) (p.whole ++ ws) ≡ e
  pub numbers : drop (numbers_of p.form) (p.numbers ++ ns) ≡ ns
  pub bytes : drop (bytes_of p.form (p.numbers ++ ns)) (p.bytes ++ bs) ≡ bs
  pub values : drop (values_of p.form (p.numbers ++ ns)) (p.values ++ vs) ≡ vs
  pub whole : drop (whole_of p.form) (p.whole ++ ws) ≡ ws

abbrev pub done : Event → Entry
done e = record { event = e; reply = reply.Done }

pub gives_kept : (e : Entry) (ns bs : List ℕ) (vs : List (Option ℤ)) (ws : List Entry) → Gives (kept e) e ns bs vs ws
gives_kept e ns bs vs ws = record { entry = refl; numbers = refl; bytes = refl; values = refl; whole = refl }

pub gives_fix : (k : Conflict) (move : RepairMove) (ns bs : List ℕ) (vs : List (Option ℤ)) (ws : List Entry) → Gives (fix_of k move) (done (event.Fix k move)) ns bs vs ws
gives_fix k (repair.Add kind start None) ns bs vs ws = record { entry = refl; numbers = refl; bytes = refl; values = refl; whole = refl }
gives_fix k (repair.Add kind start (Some goal)) ns bs vs ws = record { entry = refl; numbers = refl; bytes = refl; values = refl; whole = refl }
gives_fix k (repair.Delete id) ns bs vs ws = record { entry = refl; numbers = refl; bytes = refl; values = refl; whole = refl }
gives_fix k (repair.Shift id start) ns bs vs ws = record { entry = refl; numbers = refl; bytes = refl; values = refl; whole = refl }
gives_fix k (repair.Detail id alternative) ns bs vs ws = record { entry = refl; numbers = refl; bytes = refl; values = refl; whole = refl }
gives_fix k (repair.Abstract id) ns bs vs ws = record { entry = refl; numbers = refl; bytes = refl; values = refl; whole = refl }
gives_fix k (repair.Assign id param value) ns bs vs ws = record { entry = refl; numbers = refl; bytes = refl; values = refl; whole = refl }
gives_fix k (repair.Drop goal) ns bs vs ws = record { entry = refl; numbers = refl; bytes = refl; values = refl; whole = refl }

pub gives_message : (line ns bs : List ℕ) (vs : List (Option ℤ)) (ws : List Entry) → Gives (message_of line) (done (event.Input (Some line))) ns bs vs ws
gives_message line ns bs vs ws = record {
  entry = ap (λ (bytes : List ℕ). done (event.Input (Some bytes))) (take_at line bs (length line) refl);
  numbers = refl;
  bytes = drop_at line bs (length line) refl;
  values = refl;
  whole = refl;
}

pub gives_command : (id kind start : ℕ) (values : List (Option ℤ)) (ns bs : List ℕ) (vs : List (Option ℤ)) (ws : List Entry)
    → Gives (command_of id kind start values) (record { event = event.Dispatch; reply = reply.Sent id kind start values }) ns bs vs ws
gives_command id kind start values ns bs vs ws =
    let sent : List (Option ℤ) → Entry = λ vs. record { event = event.Dispatch; reply = reply.Sent id kind start vs } in
    record {
      entry = ap sent (take_at values vs (length values) refl);
      numbers = refl;
      bytes = refl;
      values = drop_at values vs (length values) refl;
      whole = refl;
    }

pub gives_by : (e : Event) (r : Reply) (ns bs : List ℕ) (vs : List (Option ℤ)) (ws : List Entry)
    → Gives (packed_by (record { event = e; reply = r }) e r) (record { event = e; reply = r }) ns bs vs ws
gives_by (event.Input (Some line)) reply.Done ns bs vs ws =
    let e : Entry = done (event.Input (Some line)) in
    let P : Packed → Type 0 = λ p. Gives p e ns bs vs ws in
    cond_both (ltb (length line) 65536) _ _ P (λ _. gives_message line ns bs vs ws) (λ _. gives_kept e ns bs vs ws)
gives_by (event.Fix k move) reply.Done ns bs vs ws = gives_fix k move ns bs vs ws
gives_by event.Rest (reply.Rested reason) ns bs vs ws = record { entry = refl; numbers = refl; bytes = refl; values = refl; whole = refl }
gives_by (event.Commit h) reply.Done ns bs vs ws = record { entry = refl; numbers = refl; bytes = refl; values = refl; whole = refl }
gives_by event.Dispatch (reply.Sent id kind start values) ns bs vs ws =
    let e : Entry = record { event = event.Dispatch; reply = reply.Sent id kind start values } in
    let P : Packed → Type 0 = λ p. Gives p e ns bs vs ws in
    cond_both (ltb (length values) 65536) _ _ P (λ _. gives_command id kind start values ns bs vs ws) (λ _. gives_kept e ns bs vs ws)
gives_by event.Close reply.Done ns bs vs ws = record { entry = refl; numbers = refl; bytes = refl; values = refl; whole = refl }
gives_by e r ns bs vs ws = gives_kept (record { event = e; reply = r }) ns bs vs ws

pub gives : (e : Entry) (ns bs : List ℕ) (vs : List (Option ℤ)) (ws : List Entry) → Gives (packed_of e) e ns bs vs ws
gives e ns bs vs ws = gives_by e.event e.reply ns bs vs ws

-- ---- many entries

abbrev pub form_of : Entry → List Form
form_of e = (packed_of e).form ∷ []

abbrev pub numbers_in : Entry → List ℕ
numbers_in e = (packed_of e).numbers

abbrev pub bytes_in : Entry → List ℕ
bytes_in e = (packed_of e).bytes

abbrev pub values_in : Entry → List (Option ℤ)
values_in e = (packed_of e).values

abbrev pub whole_in : Entry → List Entry
whole_in e = (packed_of e).whole

-- all entries that were packed are unpacked again
pub all_given : (es : List Entry) → entries_in (flat_map form_of es) (flat_map numbers_in es) (flat_map bytes_in es) (flat_map values_in es) (flat_map whole_in es) ≡ es
all_given [] = refl
all_given (e ∷ es) =
    let first : Gives (packed_of e) e (flat_map numbers_in es) (flat_map bytes_in es) (flat_map values_in es) (flat_map whole_in es) = gives e (flat_map numbers_in es) (flat_map bytes_in es) (flat_map values_in es) (flat_map whole_in es) in
    rw first.entry (rw first.numbers (rw first.bytes (rw first.values (rw first.whole (ap (λ (more : List Entry). e ∷ more) (all_given es))))))

-- parts have some entries, and together with the others they have them all
pub record HaveWith (parts : Parts) (others all : List Entry) : Type 0 where
  pub forms : parts.forms.items ++ flat_map form_of others ≡ flat_map form_of all
  pub numbers : parts.numbers.items ++ flat_map numbers_in others ≡ flat_map numbers_in all
  pub bytes : parts.bytes.items ++ flat_map bytes_in others ≡ flat_map bytes_in all
  pub values : parts.values.items ++ flat_map values_in others ≡ flat_map values_in all
  pub whole : parts.whole.items ++ flat_map whole_in others ≡ flat_map whole_in all

-- one entry more
pub have_more : (before after : Parts) (es : List Entry) (i : ℕ) (e : Entry) → i < length es → e ≡ get_or es i e → Adds (packed_of e) before after
    → HaveWith before (drop i es) es → HaveWith after (drop (i + 1) es) es
have_more before after es i e inside is adds now = record {
  forms = next_added form_of es i e e before.forms.items after.forms.items (flat_map form_of es) inside is adds.forms now.forms;
  numbers = next_added numbers_in es i e e before.numbers.items after.numbers.items (flat_map numbers_in es) inside is adds.numbers now.numbers;
  bytes = next_added bytes_in es i e e before.bytes.items after.bytes.items (flat_map bytes_in es) inside is adds.bytes now.bytes;
  values = next_added values_in es i e e before.values.items after.values.items (flat_map values_in es) inside is adds.values now.values;
  whole = next_added whole_in es i e e before.whole.items after.whole.items (flat_map whole_in es) inside is adds.whole now.whole;
}

-- the parts of all entries give these entries
pub have_all : (parts : Parts) (es : List Entry) (i : ℕ) → length es ≤ i → HaveWith parts (drop i es) es
    → entries_in parts.forms.items parts.numbers.items parts.bytes.items parts.values.items parts.whole.items ≡ es
have_all parts es i past now =
    let forms = all_added form_of es i parts.forms.items (flat_map form_of es) past now.forms in
    let numbers = all_added numbers_in es i parts.numbers.items (flat_map numbers_in es) past now.numbers in
    let bytes = all_added bytes_in es i parts.bytes.items (flat_map bytes_in es) past now.bytes in
    let values = all_added values_in es i parts.values.items (flat_map values_in es) past now.values in
    let whole = all_added whole_in es i parts.whole.items (flat_map whole_in es) past now.whole in
    rw forms (rw numbers (rw bytes (rw values (rw whole (all_given es)))))

-- ---- entries are unpacked one after the other, and those before a place are left out

-- what stands behind an entry of a form
pub record StandsBehind (f : Form) (ns bs : List ℕ) (vs : List (Option ℤ)) (ws : List Entry) (ns' bs' : List ℕ) (vs' : List (Option ℤ)) (ws' : List Entry) : Type 0 where
  pub numbers : ns' ≡ drop (numbers_of f) ns
  pub bytes : bs' ≡ drop (bytes_of f ns) bs
  pub values : vs' ≡ drop (values_of f ns) vs
  pub whole : ws' ≡ drop (whole_of f) ws

-- the next entry, and those behind it
pub next_entry : (fs : List Form) (i : ℕ) (d f : Form) (ns bs : List ℕ) (vs : List (Option ℤ)) (ws : List Entry) (ns' bs' : List ℕ) (vs' : List (Option ℤ)) (ws' : List Entry)
    → i < length fs → f ≡ get_or fs i d → StandsBehind f ns bs vs ws ns' bs' vs' ws'
    → entries_in (drop i fs) ns bs vs ws ≡ entry_in f ns bs vs ws ∷ entries_in (drop (i + 1) fs) ns' bs' vs' ws'
next_entry fs i d f ns bs vs ws ns' bs' vs' ws' inside is behind =
    let e : Entry = entry_in f ns bs vs ws in
    let more : List Form = drop (i + 1) fs in
    ap (λ (gs : List Form). entries_in gs ns bs vs ws) (drop_more fs i d inside ∙ ap (λ (g : Form). g ∷ more) (sym is))
    ∙ ap (λ (xs : List ℕ). e ∷ entries_in more xs (drop (bytes_of f ns) bs) (drop (values_of f ns) vs) (drop (whole_of f) ws)) (sym behind.numbers)
    ∙ ap (λ (xs : List ℕ). e ∷ entries_in more ns' xs (drop (values_of f ns) vs) (drop (whole_of f) ws)) (sym behind.bytes)
    ∙ ap (λ (xs : List (Option ℤ)). e ∷ entries_in more ns' bs' xs (drop (whole_of f) ws)) (sym behind.values)
    ∙ ap (λ (xs : List Entry). e ∷ entries_in more ns' bs' vs' xs) (sym behind.whole)

pub entry_left_out : (from place : ℕ) (e : Entry) (es more before whole : List Entry) → place < from → es ≡ e ∷ more → before ++ drop (from - place) es ≡ whole
    → before ++ drop (from - (place + 1)) more ≡ whole
entry_left_out from place e es more before whole out is now =
    let one : from - place ≡ suc (from - (place + 1)) = omega arith in
    ap (λ (n : ℕ). before ++ drop n (e ∷ more)) (sym one) ∙ ap (λ (xs : List Entry). before ++ drop (from - place) xs) (sym is) ∙ now

pub entry_added : (from place : ℕ) (e : Entry) (es more before after whole : List Entry) → from ≤ place → es ≡ e ∷ more → after ≡ before ++ e ∷ [] → before ++ drop (from - place) es ≡ whole
    → after ++ drop (from - (place + 1)) more ≡ whole
entry_added from place e es more before after whole inside is adds now =
    let here : from - place ≡ 0 = omega arith in
    let next : from - (place + 1) ≡ 0 = omega arith in
    ap (λ (n : ℕ). after ++ drop n more) next
    ∙ ap (λ (xs : List Entry). xs ++ more) adds
    ∙ append_assoc before (e ∷ []) more
    ∙ ap (λ (n : ℕ). before ++ drop n (e ∷ more)) (sym here)
    ∙ ap (λ (xs : List Entry). before ++ drop (from - place) xs) (sym is)
    ∙ now
