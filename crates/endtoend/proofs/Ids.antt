-- The ids of tracked orders: as the server writes them, and as a client reads them.
use Rattle.std.proofs.Common.{◌≡◌, ◌∙◌, ℕ, zero, suc, ◌/◌, ◌%◌, ◌<◌, Bool}
use Rattle.std.proofs.Common.{true, false, true≢false, List, [], ◌∷◌, ◌++◌, take, drop}
use Rattle.std.proofs.Common.{Option, Some, None, is_some, unwrap_or, if◌then◌else◌}
use Rattle.std.proofs.Common.{◌⊎◌, inl, inr, refl, sym, ap, arith}
use Rattle.std.specs.Prelude.{codes, option_map}
use Rattle.std.specs.Char.{digit_char, to_ascii_lowercase}
use Rattle.std.specs.List.{join_with_byte}
use Rattle.std.specs.Str.{bytes_eq, str_to_ascii_lowercase}
use Rattle.std.proofs.lemmas.Bool.Decides.{nat_tests}
use Rattle.std.proofs.lemmas.List.{map-append, take-map, drop-map}
use Rattle.std.proofs.lemmas.Slice.Eq.{bytes_eq-Decides}
use Rattle.nutwords.specs.Bytes.{is_bare}
use Rattle.nutwords.specs.Frame.{line_of}
use Rattle.nutwords.specs.Listing.{as_it_is, IsWritten, IsWrittenLine}
use Rattle.nuttracking.specs.Id.{hyphen, last_digits, groups, id_text, digits_number, read_id, is_id_byte}
use Rattle.nuttracking.proofs.PublicLaws.{ids_are_plain, is_read}
use Rattle.nutanswer.specs.Orders.{ok_words}
use Rattle.nutrequest.specs.declared.request.Request.{Request}
use Rattle.nutrequest.specs.declared.request.Request.TheVariants.{List as ListOf, GetVar}
use Rattle.nutrequest.specs.declared.request.Request.TheVariants.{GetNumAttach, TrackedSetVar}
use Rattle.nutrequest.specs.declared.request.Request.TheVariants.{TrackedInstcmd, GetTracking}
use Rattle.nutrequest.specs.Reply.{Bad, Whole, reply, first_or, first_of, after_first}
use Rattle.nutrequest.specs.Reply.{after_expected, expected_of, refusal_of, granted_id, one_item}
use Rattle.endtoend.specs.Refused.{is_granted_by_ok}
use Rattle.endtoend.proofs.Refused.{first_read}
use Rattle.endtoend.proofs.Requests.{line_of_three}
use Rattle.endtoend.proofs.Texts.{all_bare}

-- in lower case it is the same
abbrev Stays : List ℕ → Type 0
Stays text = str_to_ascii_lowercase text ≡ text

digit_stays : (d : ℕ) → d < 16 → to_ascii_lowercase (digit_char d) ≡ digit_char d
digit_stays d few = grind (arith, nat_tests)

both_stay : (a b : List ℕ) → Stays a → Stays b → Stays (a ++ b)
both_stay a b h k = map-append to_ascii_lowercase a b ∙
    ap (λ (x : List ℕ). x ++ str_to_ascii_lowercase b) h ∙ ap (λ (y : List ℕ). a ++ y) k

taken_stays : (n : ℕ) (a : List ℕ) → Stays a → Stays (take n a)
taken_stays n a h = sym (take-map to_ascii_lowercase n a) ∙ ap (take n) h

dropped_stays : (n : ℕ) (a : List ℕ) → Stays a → Stays (drop n a)
dropped_stays n a h = sym (drop-map to_ascii_lowercase n a) ∙ ap (drop n) h

digits_stay : (count n : ℕ) → Stays (last_digits count n)
unfolding last_digits
digits_stay zero n = refl
digits_stay (suc count) n =
    both_stay (last_digits count (n / 16)) (digit_char (n % 16) ∷ []) (digits_stay count (n / 16))
    (ap (λ (b : ℕ). b ∷ []) (digit_stays (n % 16) (omega arith)))

behind_hyphen : (a b : List ℕ) → Stays a → Stays b → Stays (a ++ hyphen ∷ b)
behind_hyphen a b h k = both_stay a (hyphen ∷ b) h (ap (λ (y : List ℕ). hyphen ∷ y) k)

groups_stay : (digits : List ℕ) → Stays digits → Stays (join_with_byte hyphen (groups digits))
groups_stay digits h =
    behind_hyphen (take 8 digits) _ (taken_stays 8 digits h)
    (behind_hyphen (take 4 (drop 8 digits)) _ (taken_stays 4 (drop 8 digits) (dropped_stays 8 digits h))
    (behind_hyphen (take 4 (drop 12 digits)) _ (taken_stays 4 (drop 12 digits) (dropped_stays 12 digits h))
    (behind_hyphen (take 4 (drop 16 digits)) _
    (taken_stays 4 (drop 16 digits) (dropped_stays 16 digits h)) (dropped_stays 20 digits h))))

id_stays : (id : ℕ) → Stays (id_text id)
unfolding id_text
id_stays id = groups_stay (last_digits 32 id) (digits_stay 32 id)

read_same : (id read : ℕ) → read_id (id_text id) ≡ Some read → id_text read ≡ id_text id
unfolding read_id
read_same id read e =
    let text : List ℕ = id_text id in
    let r = is_read text read (bytes_eq (str_to_ascii_lowercase text) (id_text (digits_number text))) e in
    ap id_text (sym r.1) ∙
    sym ((bytes_eq-Decides (str_to_ascii_lowercase text) (id_text (digits_number text))).0 r.0) ∙ id_stays id

-- an id is a word as it is written
id_byte-bare : (b : ℕ) → is_id_byte b ≡ true → is_bare b ≡ true
id_byte-bare b h = grind (arith, nat_tests)

pub id_written : (id : ℕ) → IsWritten (id_text id) (id_text id)
id_written id = as_it_is (omega (arith, ids_are_plain.long id))
    (all_bare is_id_byte id_byte-bare (id_text id) (ids_are_plain.digits id))

-- OK and an id
granting_written : (id : ℕ) → IsWrittenLine (ok_words (Some id)) (ok_words (Some id))
granting_written id = record {
  written = (as_it_is (omega arith) refl, (as_it_is (omega arith) refl, (id_written id, tt)));
  fits = omega (arith, ids_are_plain.long id, line_of_three (codes "OK") (codes "TRACKING") (id_text id));
}

-- is no reply to a request that the bare OK grants
no_id_wanted : (request : Request) (id : ℕ) (more : List ℕ) → is_granted_by_ok request ≡
    true → after_first request (first_of request (ok_words (Some id))) more ≡ Bad
no_id_wanted (ListOf query) id more h = refl
no_id_wanted (GetVar ups name) id more h = refl
no_id_wanted (GetNumAttach ups) id more h = refl
no_id_wanted (TrackedSetVar ups name value) id more h = cc h
no_id_wanted (TrackedInstcmd ups name value) id more h = cc h
no_id_wanted (GetTracking of) id more h = refl
no_id_wanted _ id more h = refl

pub unwanted_id : (request : Request) (id : ℕ) (more : List ℕ) → is_granted_by_ok request ≡
    true → reply request (line_of (ok_words (Some id)) ++ more) ≡ Bad
unwanted_id request id more h = first_read request (ok_words (Some id)) (ok_words (Some id)) more
    (granting_written id) ∙ no_id_wanted request id more h

-- a request that an id grants
pub record WantsId (request : Request) : Type 0 where
  pub expected : (words : List (List ℕ)) → expected_of request words ≡ granted_id words
  pub whole : (value rest : List ℕ) → after_expected request value rest ≡ Whole (one_item value) rest

module _ (request : Request) (wants : WantsId request) (more : List ℕ) where
  -- the bare OK is no reply to it
  pub missing_id : reply request (line_of (codes "OK" ∷ []) ++ more) ≡ Bad
  missing_id =
      let words : List (List ℕ) = codes "OK" ∷ [] in
      let written : IsWrittenLine words words =
      record { written = (as_it_is (omega arith) refl, tt); fits = omega arith } in
      first_read request words words more written ∙
      ap (λ (o : Option (List ℕ)). after_first request (first_or o (refusal_of words)) more) (wants.expected words)

  -- and what OK and an id are read as is that id as it was written, where they are its reply
  pub wanted_id : (id : ℕ) → (reply request (line_of (ok_words (Some id)) ++ more) ≡ Bad) ⊎
      (reply request (line_of (ok_words (Some id)) ++ more) ≡ Whole (one_item (id_text id)) more)
  wanted_id id = by_read (read_id (id_text id)) refl
    where
      read_as : (o : Option ℕ) → read_id (id_text id) ≡ o →
          reply request (line_of (ok_words (Some id)) ++ more) ≡
          after_first request (first_or (option_map id_text o) (refusal_of (ok_words (Some id)))) more
      read_as o e =
          first_read request (ok_words (Some id)) (ok_words (Some id)) more (granting_written id)
          ∙ ap (λ (o : Option (List ℕ)). after_first request
          (first_or o (refusal_of (ok_words (Some id)))) more)
          (wants.expected (ok_words (Some id)) ∙ ap (option_map id_text) e)

      by_read : (o : Option ℕ) → read_id (id_text id) ≡ o →
          (reply request (line_of (ok_words (Some id)) ++ more) ≡ Bad) ⊎
          (reply request (line_of (ok_words (Some id)) ++ more) ≡ Whole (one_item (id_text id)) more)
      by_read None e = inl (read_as None e)
      by_read (Some read) e = inr (read_as (Some read) e ∙ wants.whole (id_text read) more ∙
          ap (λ (value : List ℕ). Whole (one_item value) more) (read_same id read e))
