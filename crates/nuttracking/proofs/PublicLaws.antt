-- The laws of this crate that a proof in a crate above may cite: each is what a function of
-- src/laws.rt ensures.
use Rattle.std.proofs.Common.{◌≡◌, ℕ, ◌-◌, ◌^◌, ◌<◌, ◌≤◌, inl, inr}
use Rattle.std.proofs.Common.{nat_lt, subst, List, [], ◌∷◌, ◌++◌, length, map, drop, Bool}
use Rattle.std.proofs.Common.{true, false, true≢false, if◌then◌else◌, Option, Some, None}
use Rattle.std.proofs.Common.{is_some, unwrap_or, arith, refl, sym, ap, ◌∙◌, append_assoc}
use Rattle.std.proofs.Common.{append-nil, length-append}
use Rattle.std.proofs.lemmas.List.{length-map}
use Rattle.std.proofs.lemmas.Slice.Eq.{bytes_eq-Decides}
use Rattle.std.specs.Char.{to_ascii_lowercase}
use Rattle.std.specs.Str.{bytes_eq, str_to_ascii_lowercase}
use Rattle.circular_buffer.specs.Buffer.{keep_last}
use Rattle.nuttracking.proofs.ReadBack.{reads_text}
use Rattle.nuttracking.proofs.Reading.{text_is_lower, text_plain}
use Rattle.nuttracking.proofs.Numbers.{number_lowered, text_small}
use Rattle.nuttracking.proofs.Texts.{id_text_length}
use Rattle.nuttracking.specs.Acts.{Given, after_act, after_acts, taken_by, taken_in, given_by, given}
use Rattle.nuttracking.specs.Acts.Act.{handed_in, ordered, reported}
use Rattle.nuttracking.specs.Id.{id_text, digits_number, read_id, WrittenIsRead, ReadIsWritten, IdsArePlain}
use Rattle.nuttracking.specs.Laws.{FirstInFirstOut, TheLastAreKept, ActsKeepItSound}
use Rattle.nuttracking.specs.Laws.{LawfulActsKeepNumbersLawful, ItsDriverSettlesItOnce, as_given}
use Rattle.nuttracking.specs.Sound.{IsSoundTracking, KnownIdsAreWrittenApart, HaveLawfulNumbers, times, known_ids}
use Rattle.nuttracking.specs.Tracking.{TrackingState, nothing_tracked, pending, with_order}
use Rattle.nuttracking.specs.declared.limits.TheConstants.{ORDER_LIMIT}
use Rattle.nuttracking.specs.declared.order.Progress.TheVariants.{Pending}
use Rattle.nuttracking.proofs.ActSteps.{less_than, sound_after_act, id_step, order_step, map_append}
use Rattle.nuttracking.proofs.ActSteps.{all_kept, keep_keep, dropped_front, orders_after}
use Rattle.nuttracking.proofs.ActSteps.{orders_handed_in, settles}
use Rattle.nuttracking.proofs.KeptSound.{not_below, lawful_with_order, lawful_settled}
use Rattle.std.proofs.lemmas.Bool.{cases_Bool}

-- ids_are_read_back
pub is_read : (text : List ℕ) (n : ℕ) (b : Bool) →
    (if b then Some (digits_number text) else None) ≡ Some n → (b ≡ true) × (digits_number text ≡ n)
is_read text n true e = (refl, ap (λ (o : Option ℕ). unwrap_or o 0) e)
is_read text n false e = absurd (true≢false (sym (ap is_some e)))

text_read : (text : List ℕ) (n : ℕ) → read_id text ≡ Some n → str_to_ascii_lowercase text ≡ id_text n
unfolding read_id
text_read text n e =
    let r = is_read text n (bytes_eq (str_to_ascii_lowercase text) (id_text (digits_number text))) e in
    (bytes_eq-Decides (str_to_ascii_lowercase text) (id_text (digits_number text))).0 r.0 ∙ ap id_text r.1

small_read : (text : List ℕ) (n : ℕ) → read_id text ≡ Some n → n < 2 ^ 128
unfolding read_id
small_read text n e =
    let number : digits_number (id_text n) ≡ n = ap digits_number (sym (text_read text n e)) ∙
    number_lowered text ∙ (is_read text n _ e).1 in
    subst (λ (m : ℕ). m < 2 ^ 128) number (text_small n)

pub read_is_written : ReadIsWritten
read_is_written text id = (λ e. (small_read text id e, text_read text id e), λ h. reads_text text id h.0 h.1)

pub written_is_read : WrittenIsRead
written_is_read id small = reads_text (id_text id) id small (text_is_lower id)

-- ids_are_plain
pub ids_are_plain : IdsArePlain
ids_are_plain = record {
  long = id_text_length;
  digits = text_plain;
  read = λ text id e. sym (length-map text to_ascii_lowercase) ∙
      ap length (text_read text id e) ∙ id_text_length id;
}

-- an_id_stands_for_one_order
pub nothing_is_sound : IsSoundTracking nothing_tracked
nothing_is_sound = record {
  ids_few = omega arith;
  orders_few = omega arith;
  small = λ id h. omega arith;
  once = λ id. omega arith;
}

pub acts_keep_it_sound : ActsKeepItSound
acts_keep_it_sound t [] s = s
acts_keep_it_sound t (act ∷ acts) s = acts_keep_it_sound (after_act t act) acts (sound_after_act t act s)

small_known : (t : TrackingState) (id : ℕ) → IsSoundTracking t → 1 ≤ times id (known_ids t) → id < 2 ^ 128
small_known t id s known = elim (cases_Bool (nat_lt id (2 ^ 128))) [
  | inl small ↦ less_than id (2 ^ 128) small
  | inr wide ↦ absurd (let none = s.small id (not_below id (2 ^ 128) wide) in omega arith)
]

pub known_ids_are_written_apart : KnownIdsAreWrittenApart
known_ids_are_written_apart t one other s here there alike =
    let first = written_is_read one (small_known t one s here) in
    let second = written_is_read other (small_known t other s there) in
    ap (λ (o : Option ℕ). unwrap_or o 0) (sym first ∙ ap read_id alike ∙ second)

pub lawful_acts_keep_numbers_lawful : LawfulActsKeepNumbersLawful
lawful_acts_keep_numbers_lawful t (handed_in id) lawful all = rw (orders_handed_in t id) all
lawful_acts_keep_numbers_lawful t (ordered place) lawful all = by_id t.ids
  where
    by_id : (ids : List ℕ) → HaveLawfulNumbers (with_order place (record { ids = ids; orders = t.orders })).orders
    by_id [] = all
    by_id (id ∷ ids) = lawful_with_order place id _ t.orders all
lawful_acts_keep_numbers_lawful t (reported place id number) lawful all =
    lawful_settled place id number t.orders lawful all

-- ids_are_used_in_their_order
pub first_in_first_out : FirstInFirstOut
first_in_first_out t [] = sym (append-nil t.ids)
first_in_first_out t (act ∷ acts) =
    let t' : TrackingState = after_act t act in
    let used : List ℕ = map (λ (order : Given). order.id) (given_by t act) in
    let later : List ℕ = map (λ (order : Given). order.id) (given t' acts) in
    let final : List ℕ = (after_acts t' acts).ids in
    let taken : List ℕ = taken_in t' acts in
    ap (λ (l : List ℕ). l ++ final) (map_append (λ (order : Given). order.id) (given_by t act) (given t' acts))
    ∙ append_assoc used later final ∙ ap (λ (l : List ℕ). used ++ l) (first_in_first_out t' acts)
    ∙ sym (append_assoc used t'.ids taken) ∙
    ap (λ (l : List ℕ). l ++ taken) (id_step t act) ∙ append_assoc t.ids (taken_by t act) taken

-- the_last_orders_are_kept
pub the_last_are_kept : TheLastAreKept
the_last_are_kept t [] s = all_kept t.orders s.orders_few
the_last_are_kept t (act ∷ acts) s =
    let t' : TrackingState = after_act t act in
    let before : List Given = map as_given t.orders in
    let now : List Given = given_by t act in
    let later : List Given = given t' acts in
    the_last_are_kept t' acts (sound_after_act t act s)
    ∙ ap (λ (l : List Given). keep_last ORDER_LIMIT (l ++ later)) (order_step t act s.orders_few)
    ∙ keep_keep ORDER_LIMIT (before ++ now) later ∙ ap (keep_last ORDER_LIMIT) (append_assoc before now later)

-- its_driver_settles_an_order_once
pub its_driver_settles_it_once : ItsDriverSettlesItOnce
its_driver_settles_it_once t place id later s e few =
    let k : ℕ = length (t.orders ++ pending place id ∷ []) - ORDER_LIMIT in
    let orders : (with_order place t).orders ≡ drop k t.orders ++ pending place id ∷ [] =
    orders_after place id t.ids t.orders e ∙
    sym (dropped_front k t.orders (pending place id ∷ [])
    (omega (arith, length-append t.orders (pending place id ∷ [])))) in
    settles (with_order place t) place id Pending (drop k t.orders) [] later
    (sound_after_act t (ordered place) s) orders (omega arith)
