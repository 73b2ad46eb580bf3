-- Answers that are one line, which begins no listing, or a listing to its END; what is answered of
-- a UPS that is lawful.
use Rattle.std.proofs.Common.{◌≡◌, ◌<◌, ◌^◌, ℕ, Bool, true, false, List, []}
use Rattle.std.proofs.Common.{◌∷◌, ◌++◌, Option, Some, None, Result, Ok, Err, refl, sym}
use Rattle.std.proofs.Common.{ap, subst, arith}
use Rattle.std.specs.Prelude.{codes, map, filter, slice_get, All, IsTrue, IfSome}
use Rattle.std.specs.Fmt.{decimal, signed_decimal}
use Rattle.std.specs.List.{AllByRecursion, concat, find, join_with_byte}
use Rattle.std.specs.BTreeMap.{is_at}
use Rattle.std.specs.Option.{ok_or, option_map, option_and_then}
use Rattle.std.proofs.lemmas.Bool.{cond_both}
use Rattle.std.proofs.lemmas.Int.{ints}
use Rattle.std.proofs.lemmas.List.{append-nil}
use Rattle.std.proofs.lemmas.List.Elements.{All-head, All-tail, All-filter, All-map, All-get_or}
use Rattle.std.proofs.lemmas.List.Sums.{count_by-le-length}
use Rattle.std.proofs.lemmas.Map.Views.{IfSome-lookup_from_All}
use Rattle.std.proofs.lemmas.Option.{slice_get_within, get_or_from_slice_get}
use Rattle.nutwords.specs.Answers.{begins_listing, ends_listing, GoesToEnd, ends, goes_on, IsAnswer}
use Rattle.nutwords.specs.Answers.{one_line as one_line_alone, listing as whole_listing}
use Rattle.nutwords.specs.Frame.{line_of, frame}
use Rattle.nutwords.specs.Reading.{is_name, is_value, is_address}
use Rattle.nutwords.specs.Spelling.{quoted}
use Rattle.nuttracking.specs.Sound.{IsLawfulProgress, HaveLawfulNumbers}
use Rattle.nuttracking.specs.Tracking.{has_id}
use Rattle.nuttracking.specs.declared.order.Progress.{Progress}
use Rattle.nuttracking.specs.declared.order.TrackedOrder.{TrackedOrder}
use Rattle.nutdriver.specs.Sound.{IsSoundRange, IsSoundTree}
use Rattle.nutdriver.specs.Tree.{TreeState, byte_order, variable_at}
use Rattle.nutdriver.specs.Variable.{VariableState}
use Rattle.nutdriver.specs.declared.range.Range.{Range}
use Rattle.nutusers.specs.Descriptions.{Texts, text_at, AreLawfulTexts}
use Rattle.nutusers.specs.Texts.{is_description}
use Rattle.nutusers.specs.UpsList.{Ups, IsLawfulUps}
use Rattle.nutusers.specs.declared.ups_list.UpsId.{UpsId}
use Rattle.nutwords.specs.declared.limits.TheConstants.{VALUE_LIMIT}
use Rattle.nutlisting.specs.declared.lines.TheConstants.{SHOWN_LIMIT}
use Rattle.nutlisting.specs.Lawful.{IsLawfulText, IsSoundEntry}
use Rattle.nutlisting.specs.Items.{ups_item, variable_item, command_item, enum_item, range_item, client_item}
use Rattle.nutlisting.specs.Shown.{shown, description_of, text_or_unavailable, ups_description}
use Rattle.nutlisting.proofs.PublicLaws.{ids_are_lawful, texts_are_lawful, lawful_words_are_a_line, sound_entries}
use Rattle.nutcommand.specs.declared.err_word.ErrWord.{ErrWord}
use Rattle.nutcommand.specs.declared.err_word.ErrWord.TheVariants.{VarNotSupported, InvalidArgument}
use Rattle.nutcommand.specs.ErrWord.{spelling_of}
use Rattle.nutanswer.specs.View.{Seen, UpsSeen, ClientSeen, is_logged_in, login_count, addresses_at}
use Rattle.nutanswer.specs.Checks.{KnownUps, ups_named, variable_named, known_variable, kept_progress}
use Rattle.nutanswer.specs.Orders.{ok_words, on_or_off_word}
use Rattle.nutanswer.specs.Answer.{Answer, ok, text_of_answer, description_at}
use Rattle.nutcommand.specs.Command.{HasLawfulName, HasLawfulUpsName}
use Rattle.nutanswer.specs.Laws.{IsLawfulSeen}
use Rattle.nutanswer.proofs.ErrorLemmas.{error_lawful}
use Rattle.nutanswer.proofs.Named.{named_is_seen}
use Rattle.nutanswer.proofs.Plain.{IsPlain, ArePlain, quoted_plain}

-- an item of a listing: its line has no LF, and doesn't end the listing
pub record IsItem (words : List (List ℕ)) : Type 0 where
  plain : ArePlain words
  inside : ends_listing (join_with_byte 32 words) ≡ false

items_end : (items : List (List (List ℕ))) (end : List (List ℕ)) →
    AllByRecursion IsItem items → ArePlain end → ends_listing (join_with_byte 32 end) ≡
    true → GoesToEnd (concat (map line_of items ++ line_of end ∷ []))
items_end [] end all plain last =
    subst GoesToEnd (sym (append-nil (line_of end)))
    (ends (join_with_byte 32 end) (lawful_words_are_a_line.joined end plain) last)
items_end (item ∷ items) end all plain last =
    goes_on (join_with_byte 32 item) (concat (map line_of items ++ line_of end ∷ []))
    (lawful_words_are_a_line.joined item all.0.plain) all.0.inside (items_end items end all.1 plain last)

pub listing_shaped : (kind : List ℕ) (names : List (List ℕ)) (items : List (List (List ℕ)))
    → ArePlain (kind ∷ names) → AllByRecursion IsItem items → IsAnswer (frame kind names items)
listing_shaped kind names items plain all =
    whole_listing (join_with_byte 32 (codes "BEGIN" ∷ codes "LIST" ∷ kind ∷ names)) _
    (lawful_words_are_a_line.joined (codes "BEGIN" ∷ codes "LIST" ∷ kind ∷ names) (refl, (refl, plain))) refl
    (items_end items (codes "END" ∷ codes "LIST" ∷ kind ∷ names) all (refl, (refl, plain)) refl)

module _ {X : Type 0} (P : X → Type 0) (item : X → List (List ℕ)) where
  pub items_of : ((x : X) → P x → IsItem (item x)) → (xs : List X) → All P xs →
      AllByRecursion IsItem (map item xs)
  items_of each [] all = tt
  items_of each (x ∷ xs) all = (each x (All-head P x xs all), items_of each xs (All-tail P x xs all))

-- a single line
pub line_shaped : (words : List (List ℕ)) → ArePlain words →
    begins_listing (join_with_byte 32 words) ≡ false → IsAnswer (line_of words)
line_shaped words plain alone = one_line_alone (join_with_byte 32 words)
    (lawful_words_are_a_line.joined words plain) alone

abbrev pub IsShaped : Result Answer ErrWord → Type 0
IsShaped answer = IsAnswer (text_of_answer answer)

pub refused_shaped : (word : ErrWord) → IsShaped (Err word)
refused_shaped word = one_line_alone (join_with_byte 32 (codes "ERR" ∷ spelling_of word ∷ []))
    (lawful_words_are_a_line.no_lf (join_with_byte 32 (codes "ERR" ∷ spelling_of word ∷ []))
    (error_lawful word)) refl

pub ok_shaped : IsAnswer (line_of ok)
ok_shaped = line_shaped ok (refl, tt) refl

-- an order, tracked or not
pub order_shaped : (id : Option ℕ) → IsAnswer (line_of (ok_words id))
order_shaped None = ok_shaped
order_shaped (Some id) = line_shaped (ok_words (Some id)) (refl, (refl, (ids_are_lawful.lawful id, tt))) refl

pub on_or_off_plain : (on : Bool) → IsPlain (on_or_off_word on)
on_or_off_plain on = grind arith

-- an order that is found is done with a lawful number
found_all : {X : Type 0} (P : X → Type 0) (test : X → Bool) (xs : List X) → All P xs → IfSome (find test xs) P
found_all P test [] all = tt
found_all P test (x ∷ xs) all =
    cond_both (test x) (Some x) (find test xs) (λ o. IfSome o P) (λ e. All-head P x xs all)
    (λ e. found_all P test xs (All-tail P x xs all))

pub progress_found : (s : Seen) (id : Option ℕ) (k : ℕ × Progress) →
    HaveLawfulNumbers s.tracking.orders → kept_progress s id ≡ Ok k → IsLawfulProgress k.1
progress_found s None k numbers e = cc e
progress_found s (Some id) k numbers e =
    by_found (find (has_id id) s.tracking.orders)
    (found_all (λ (order : TrackedOrder). IsLawfulProgress order.progress) (has_id id) s.tracking.orders numbers) e
  where
    by_found : (o : Option TrackedOrder) → IfSome o (λ order. IsLawfulProgress order.progress)
        → ok_or (option_map (λ (progress : Progress). (id, progress))
        (option_map (λ (order : TrackedOrder). order.progress) o)) InvalidArgument ≡ Ok k → IsLawfulProgress k.1
    by_found None h e = cc e
    by_found (Some order) h e = let same : (id, order.progress) ≡ k = cc e in
        subst (λ (k : ℕ × Progress). IsLawfulProgress k.1) same h

-- the items of the listings
pub entry_item : (word ups : List ℕ) (fsd : Bool) → IsPlain word → IsPlain ups →
    ((name text : List ℕ) → ends_listing (join_with_byte 32 (word ∷ ups ∷ name ∷ text ∷ [])) ≡ false)
    → (entry : List ℕ × VariableState) → IsSoundEntry entry → IsItem (variable_item word ups fsd entry)
entry_item word ups fsd w u inside entry h = record {
  plain = (
    w,
    (
      u,
      (
        (texts_are_lawful.names entry.0 h.0).lawful,
        (
          quoted_plain SHOWN_LIMIT (shown fsd entry.0 entry.1)
              (texts_are_lawful.shown fsd entry.0 entry.1 h.1.value),
          tt,
        ),
      ),
    ),
  );
  inside = inside entry.0 (quoted (shown fsd entry.0 entry.1));
}

pub command_inside : (ups : List ℕ) → IsPlain ups → (name : List ℕ) →
    IsTrue (is_name name) → IsItem (command_item ups name)
command_inside ups u name h = record
    { plain = (refl, (u, ((texts_are_lawful.names name h).lawful, tt))); inside = refl }

pub enum_inside : (ups name : List ℕ) → IsPlain ups → IsPlain name → (value : List ℕ) →
    IsTrue (is_value value) → IsItem (enum_item ups name value)
enum_inside ups name u n value h =
    record
    { plain = (refl, (u, (n, (quoted_plain VALUE_LIMIT value (texts_are_lawful.values value h), tt)))); inside = refl }

pub range_inside : (ups name : List ℕ) → IsPlain ups → IsPlain name → (range : Range) →
    IsSoundRange range → IsItem (range_item ups name range)
range_inside ups name u n range r = record {
  plain = (
    refl,
    (
      u,
      (
        n,
        (
          quoted_plain 11 (signed_decimal range.least)
              (texts_are_lawful.numbers range.least r.least (omega (arith, ints, r.rises, r.greatest))),
          (
            quoted_plain 11 (signed_decimal range.greatest)
                (texts_are_lawful.numbers range.greatest (omega (arith, ints, r.least, r.rises)) r.greatest),
            tt,
          ),
        ),
      ),
    ),
  );
  inside = refl;
}

pub ups_inside : (ups : Ups) → IsLawfulUps ups → IsItem (ups_item ups)
ups_inside ups h = record {
  plain = (
    refl,
    (
      (texts_are_lawful.ups_names ups.name h.name).lawful,
      (quoted_plain VALUE_LIMIT (ups_description ups) (texts_are_lawful.ups_described ups.desc h.description), tt),
    ),
  );
  inside = refl;
}

pub client_inside : (ups : List ℕ) → IsPlain ups → (address : List ℕ) →
    IsTrue (is_address address) → IsItem (client_item ups address)
client_inside ups u address h = record
    { plain = (refl, (u, ((texts_are_lawful.addresses address h).lawful, tt))); inside = refl }

-- what stands at a place of a list
module _ {X : Type 0} (P : X → Type 0) where
  at_place : (xs : List X) (place : ℕ) (x : X) → All P xs → slice_get xs place ≡ Some x → P x
  at_place xs place x all e = subst P (get_or_from_slice_get xs place x x e)
      (All-get_or P xs place x (slice_get_within xs place x e) all)

-- the text of a name
pub text_lawful : (texts : Texts) (name : List ℕ) → AreLawfulTexts texts →
    IsLawfulText VALUE_LIMIT (description_of (text_at texts name))
text_lawful texts name all = texts_are_lawful.described (text_at texts name)
    (IfSome-lookup_from_All (λ text. IsTrue (is_description text)) (is_at (byte_order name)) texts all)

-- a variable that is found has the name that was asked for
variable_found : (tree : TreeState) (name : Option (List ℕ)) (v : List ℕ × VariableState) →
    ok_or (variable_named tree name) VarNotSupported ≡ Ok v → (name ≡ Some v.0) ×
    (variable_at tree v.0 ≡ Some v.1)
variable_found tree None v e = cc e
variable_found tree (Some name) v e = by_found (variable_at tree name) refl e
  where
    by_found : (o : Option VariableState) → variable_at tree name ≡ o →
        ok_or (option_map (λ (x : VariableState). (name, x)) o) VarNotSupported ≡ Ok v →
        (Some name ≡ Some v.0) × (variable_at tree v.0 ≡ Some v.1)
    by_found o there e = grind arith

pub name_found : (name : Option (List ℕ)) (word : ErrWord) (v : List ℕ) →
    HasLawfulName name → ok_or name word ≡ Ok v → IsPlain v
name_found None word v h e = cc e
name_found (Some name) word v h e = let same : name ≡ v = cc e in
    (texts_are_lawful.names v (h v (ap Some same))).lawful

-- a UPS that is found
pub record IsLawfulKnown (u : KnownUps) : Type 0 where
  pub name : IsPlain u.name
  pub tree : IsSoundTree u.state.report.tree

pub record IsLawfulFound (u : KnownUps) (v : List ℕ × VariableState) : Type 0 where
  pub ups : IsLawfulKnown u
  pub name : IsPlain v.0
  pub entry : IsSoundEntry v

module _ (s : Seen) (seen : IsLawfulSeen s) where
  pub lawful_known : (ups : Option (List ℕ)) (u : KnownUps) → HasLawfulUpsName ups →
      ups_named s ups ≡ Some u → IsLawfulKnown u
  lawful_known ups u h named =
      let is = named_is_seen s ups u named in
      record {
        name = (texts_are_lawful.ups_names u.name (h u.name is.name_is)).lawful;
        tree = at_place (λ (x : UpsSeen). IsSoundTree x.report.tree) s.upses u.id.place u.state seen.trees is.stands;
      }

  -- the description of a UPS of the list
  pub description_lawful : (u : UpsId) → IsLawfulText VALUE_LIMIT (text_or_unavailable (description_at s u))
  description_lawful u = texts_are_lawful.ups_described (description_at s u) (by_listed (slice_get s.list u.place) refl)
    where
      by_listed : (o : Option Ups) → slice_get s.list u.place ≡ o →
          IfSome (option_and_then (λ ups. ups.desc) o) (λ text. IsTrue (is_description text))
      by_listed None e = tt
      by_listed (Some ups) e = (at_place IsLawfulUps s.list u.place ups seen.list e).description

  -- of a variable that is found
  pub lawful_found : (ups name : Option (List ℕ)) (u : KnownUps) (v : List ℕ × VariableState)
      → HasLawfulUpsName ups × HasLawfulName name → ups_named s ups ≡ Some u →
      known_variable u name ≡ Ok v → IsLawfulFound u v
  lawful_found ups name u v h named is =
      let k = lawful_known ups u h.0 named in
      let there = variable_found u.state.report.tree name v is in
      let lawful_name = h.1 v.0 there.0 in
      record {
        ups = k;
        name = (texts_are_lawful.names v.0 lawful_name).lawful;
        entry = (lawful_name, sound_entries.found u.state.report.tree v.0 v.1 k.tree there.1);
      }

  few_logged_in : (u : KnownUps) → login_count u.id s.clients < 2 ^ 64
  few_logged_in u = let few = seen.few in omega (arith, few, count_by-le-length (is_logged_in u.id) s.clients)

  pub variables_of : (u : KnownUps) → IsLawfulKnown u → All IsSoundEntry u.state.report.tree.variables
  variables_of u k = sound_entries.entries u.state.report.tree k.tree

  -- of those that are logged in
  pub count_plain : (ups : Option (List ℕ)) (u : KnownUps) → HasLawfulUpsName ups →
      ups_named s ups ≡ Some u → ArePlain (u.name ∷ decimal (login_count u.id s.clients) ∷ [])
  count_plain ups u h named = (
    (lawful_known ups u h named).name,
    (texts_are_lawful.decimals (login_count u.id s.clients) (few_logged_in u), tt),
  )

  pub lawful_clients : (u : KnownUps) → All (λ address. IsTrue (is_address address)) (addresses_at u.id s.clients)
  lawful_clients u =
      All-map (λ address. IsTrue (is_address address)) (λ (client : ClientSeen). client.address)
      (filter (is_logged_in u.id) s.clients)
      (All-filter (is_logged_in u.id) (λ (client : ClientSeen). IsTrue (is_address client.address))
      s.clients seen.addresses)
