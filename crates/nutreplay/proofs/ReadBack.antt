-- A line that is written of an event is read as that event, and so is what is written of many; and
-- the first lines of a record.
use Rattle.std.proofs.Common.{◌≡◌, ◌∙◌, ℕ, zero, suc, ◌+◌, ◌-◌, ◌<◌}
use Rattle.std.proofs.Common.{◌^◌, Bool, true, false, not, ◌&&◌, ◌||◌, ◌==◌, cond}
use Rattle.std.proofs.Common.{eqb, leb, nat_le, nat_lt, unwrap_or, List, [], ◌∷◌, ◌++◌}
use Rattle.std.proofs.Common.{length, length-append, take, drop, map, Option, Some, None, Result}
use Rattle.std.proofs.Common.{Ok, Err, is_ok, is_some, get_or, if◌then◌else◌, refl, sym, ap}
use Rattle.std.proofs.Common.{subst, arith, append-nil, append_assoc, one-add, lt-ltb, eqb-true}
use Rattle.std.proofs.Common.{codes, slice_get, position, bytes_eq, is_eq}
use Rattle.std.specs.Fmt.{decimal}
use Rattle.std.specs.List.{list_all, position_or_len, AllPass, AllByRecursion}
use Rattle.std.specs.List.Sorted.{IsStrictlySortedBy}
use Rattle.std.specs.Option.{option_and_then, option_map, option_map_or}
use Rattle.std.specs.Result.{result_ok}
use Rattle.std.specs.Str.Parse.{AllDigits, digits_value}
use Rattle.std.proofs.lemmas.Bool.{and_from, and_parts, and_right, le-leb}
use Rattle.std.proofs.lemmas.Bool.Decides.{nat_tests}
use Rattle.std.proofs.lemmas.Fmt.{decimal_digit, decimal_is_IsNumeral, first_decimal}
use Rattle.std.proofs.lemmas.List.{map-append}
use Rattle.std.proofs.lemmas.List.Elements.{All-head, All-tail}
use Rattle.std.proofs.lemmas.Map.Text.{is_eq-slice_cmp}
use Rattle.std.proofs.lemmas.Option.{slice_get_within, get_or_from_slice_get}
use Rattle.std.proofs.lemmas.Slice.Eq.{bytes_eq-Decides}
use Rattle.std.proofs.lemmas.Str.Parse.{digit_from_value}
use Rattle.std.proofs.Math.Seq.{take-append_seam, drop-append-add}
use Rattle.hex.specs.Hex.{IsBytes, is_hex_digit, encode_with, encode_lower, lower_digits, decode_of}
use Rattle.hex.proofs.HexLemmas.{decode_of-encode_lower, length-encode_with, decode_of-ok}
use Rattle.nuttracking.specs.Id.{id_text, is_id_byte}
use Rattle.nuttracking.proofs.PublicLaws.{written_is_read, ids_are_plain}
use Rattle.nutwords.specs.Bytes.{is_name_byte, is_address_byte}
use Rattle.nutwords.specs.Natural.{is_digit, is_natural, read_natural, up_to}
use Rattle.nutwords.specs.Reading.{read_text}
use Rattle.nutwords.specs.Text.{lines_of, is_silent}
use Rattle.nutwords.specs.declared.faults.BadName.{BadName}
use Rattle.nutwords.specs.declared.faults.BadName.TheVariants.{Empty, TooLong, AnotherByte}
use Rattle.nutwords.specs.declared.limits.TheConstants.{UPS_NAME_LIMIT, ADDRESS_LIMIT}
use Rattle.nutusers.specs.declared.ups_list.UpsId.{UpsId}
use Rattle.nutusers.specs.UpsList.{Ups, IsLawfulUps, IsList, AreByName, place_of, id_at}
use Rattle.nutcore.specs.declared.event.Event.{Event}
use Rattle.nutcore.specs.declared.event.Event.TheVariants as happening
use Rattle.nutcore.specs.declared.event.Peer.{Peer}
use Rattle.nutcore.specs.declared.event.Peer.TheVariants.{Client, Driver}
use Rattle.nutreplay.specs.declared.script.action.Action.{Action}
use Rattle.nutreplay.specs.declared.script.action.Action.TheVariants.{Happens, TookAll}
use Rattle.nutreplay.specs.declared.script.action.Form.TheVariants.{Part, Hex}
use Rattle.nutreplay.specs.declared.script.action.TheConstants.{UNLISTED}
use Rattle.nutreplay.specs.Script.{ScriptLine}
use Rattle.nutcore.specs.Limits.{read_max_age}
use Rattle.nutcore.specs.declared.max_age.TheConstants.{MAX_AGE_LEAST, MAX_AGE_MOST, MAX_AGE_DEFAULT}
use Rattle.nutcore.specs.Recording.{came_from}
use Rattle.nutreplay.specs.Script.{split_at_space, age_by, age_in, age_of_lines, asks_nothing}
use Rattle.nutreplay.specs.Script.{max_age_of, number, ups_named, ups, with_rest, driver_and_rest}
use Rattle.nutreplay.specs.Script.{client_and_rest, took, taking, sending, action_of, read_parts}
use Rattle.nutreplay.specs.Script.{read_line, actions_from, numbered, bad_line_from, is_bad}
use Rattle.nutreplay.specs.Script.{actions_of, first_bad_line}
use Rattle.nutreplay.specs.Written.{name_at, verb_of_bytes, age_line, comment_line, head_of}
use Rattle.nutreplay.specs.Written.{is_one_line, line_of, Has, IsEventOf, IsReadAs, AHeadIsRead}
use Rattle.nutreplay.specs.Written.{WhatIsWrittenIsReadBack}
use Rattle.nutwords.proofs.BytesRead.{all_also}
use Rattle.nutwords.proofs.Digits.{natural_of}

-- The bytes of a line without LF, and those of a word of it.
abbrev in_line : ℕ → Bool
in_line b = not (b == 10)

abbrev in_word : ℕ → Bool
in_word b = not (b == 10) && not (b == 32)

abbrev IsPart : List ℕ → Type 0
IsPart xs = list_all in_line xs ≡ true

abbrev IsWord : List ℕ → Type 0
IsWord xs = list_all in_word xs ≡ true

not_true : (b : Bool) → not b ≡ true → b ≡ false
not_true true h = cc h
not_true false h = refl

parts_joined : (xs ys : List ℕ) → IsPart xs → IsPart ys → IsPart (xs ++ ys)
parts_joined [] ys h k = k
parts_joined (b ∷ xs) ys h k =
    let hs = and_parts (in_line b) (list_all in_line xs) h in
    and_from (in_line b) (list_all in_line (xs ++ ys)) hs.0 (parts_joined xs ys hs.1 k)

word_is_part : (xs : List ℕ) → IsWord xs → IsPart xs
word_is_part xs h = all_also in_word in_line (λ b k. (and_parts (in_line b) (not (b == 32)) k).0) xs h

-- The first line, and the first word.
first_line : (line more : List ℕ) → IsPart line → lines_of (line ++ 10 ∷ more) ≡ line ∷ lines_of more
first_line [] more h = refl
first_line (b ∷ line) more h =
    let hs = and_parts (in_line b) (list_all in_line line) h in
    rw (not_true (b == 10) hs.0, first_line line more hs.1) refl

space_at : (w rest : List ℕ) → IsWord w → position_or_len (λ b. b == 32) (w ++ 32 ∷ rest) ≡ length w
space_at [] rest h = refl
space_at (b ∷ w) rest h =
    let hs = and_parts (in_word b) (list_all in_word w) h in
    rw (not_true (b == 32) (and_parts (in_line b) (not (b == 32)) hs.0).1, space_at w rest hs.1) (one-add (length w))

first_word : (w rest : List ℕ) → IsWord w → split_at_space (w ++ 32 ∷ rest) ≡ Some (w, rest)
first_word w rest h =
    let line : List ℕ = w ++ 32 ∷ rest in
    let within : nat_lt (length w) (length line) ≡ true =
    lt-ltb (length w) (length line) (omega (arith, length-append w (32 ∷ rest))) in
    let at : position (λ b. b == 32) line ≡ Some (length w) =
    ap (λ n. cond (nat_lt n (length line)) (Some n) None) (space_at w rest h) ∙
    ap (λ b. cond b (Some (length w)) None) within in
    ap (option_map (λ i. (take i line, drop (i + 1) line))) at
    ∙ ap (λ xs. Some (xs, drop (length w + 1) line)) (take-append_seam w (32 ∷ rest))
    ∙ ap (λ xs. Some (w, xs)) (drop-append-add w (32 ∷ rest) 1)

-- Numbers.
digits_all : (ds : List ℕ) → AllDigits 10 ds → list_all is_digit ds ≡ true
digits_all [] all = refl
digits_all (d ∷ ds) all =
    let here = digit_from_value d all.0 in
    and_from (is_digit d) (list_all is_digit ds) (grind (arith, nat_tests)) (digits_all ds all.1)

decimal_digits : (n : ℕ) → n < 2 ^ 64 → list_all is_digit (decimal n) ≡ true
decimal_digits n few = digits_all (decimal n) (decimal_is_IsNumeral n few).0.1

is_word_of_digit : (b : ℕ) → is_digit b ≡ true → in_word b ≡ true
is_word_of_digit b h = grind (arith, nat_tests)

decimal_word : (n : ℕ) → n < 2 ^ 64 → IsWord (decimal n)
decimal_word n few = all_also is_digit in_word is_word_of_digit (decimal n) (decimal_digits n few)

natural_read : (most n : ℕ) → n < 2 ^ 64 → leb n most ≡ true → read_natural most (decimal n) ≡ Some n
natural_read most n few within =
    ap (λ (b : Bool). if b then up_to most (digits_value 10 (decimal n)) else None) (by_zero (eqb n 0) refl)
    ∙ ap (λ (k : ℕ). up_to most k) (decimal_is_IsNumeral n few).1
    ∙ ap (λ (b : Bool). if b then Some n else None) within
  where
    by_zero : (b : Bool) → eqb n 0 ≡ b → is_natural (decimal n) ≡ true
    by_zero true e = let none : n ≡ 0 = grind (arith, nat_tests) in
        ap (λ k. is_natural (decimal k)) none ∙ ap is_natural (decimal_digit 0 (omega arith))
    by_zero false e =
        let some : 0 < n = grind (arith, nat_tests) in
        natural_of (decimal n) (decimal_digits n few) (first_decimal n some few)

number_read : (n : ℕ) → n < 2 ^ 64 → number (decimal n) ≡ Some n
number_read n few = natural_read (2 ^ 64 - 1) n few (grind (arith, nat_tests))

-- Names and addresses.
record IsTextOf (allowed : ℕ → Bool) (bytes : List ℕ) (read : Result (List ℕ) BadName) : Type 0 where
  is : read ≡ Ok bytes
  all : list_all allowed bytes ≡ true

read_is : (allowed : ℕ → Bool) (may_be_empty : Bool) (most : ℕ) (bytes : List ℕ) →
    is_ok (read_text allowed may_be_empty most bytes) ≡ true →
    IsTextOf allowed bytes (read_text allowed may_be_empty most bytes)
read_is allowed may_be_empty most bytes h =
    by ((length bytes == 0) && not may_be_empty) (nat_lt most (length bytes)) (list_all allowed bytes) refl h
  where
    by : (none long all : Bool) → list_all allowed bytes ≡ all →
        is_ok (if none then Err Empty else if long then Err TooLong else if all then Ok bytes
        else Err AnotherByte) ≡ true
        → IsTextOf allowed bytes (if none then Err Empty else if long then Err TooLong else if all
        then Ok bytes else Err AnotherByte)
    by true long all e k = cc k
    by false true all e k = cc k
    by false false true e k = record { is = refl; all = e }
    by false false false e k = cc k

is_word_of_name : (b : ℕ) → is_name_byte b ≡ true → in_word b ≡ true
is_word_of_name b h = grind (arith, nat_tests)

is_word_of_address : (b : ℕ) → is_address_byte b ≡ true → in_word b ≡ true
is_word_of_address b h = grind (arith, nat_tests)

is_word_of_id : (b : ℕ) → is_id_byte b ≡ true → in_word b ≡ true
is_word_of_id b h = grind (arith, nat_tests)

same_bytes : (a b : List ℕ) → a ≡ b → bytes_eq a b ≡ true
same_bytes a b e = (bytes_eq-Decides a b).1 e

-- A UPS is the first of its name.
passes_at : (P : Ups → Type 0) (list : List Ups) (i : ℕ) (x : Ups) → AllByRecursion P list →
    slice_get list i ≡ Some x → P x
passes_at P [] i x all at = cc at
passes_at P (y ∷ list) zero x all at = let same : y ≡ x = cc at in subst P same all.0
passes_at P (y ∷ list) (suc i) x all at = passes_at P list i x all.1 at

place_at : (list : List Ups) (i : ℕ) (x : Ups) → AreByName list → slice_get list i ≡
    Some x → position_or_len (λ y. bytes_eq y.name x.name) list ≡ i
unfolding IsStrictlySortedBy
place_at [] i x rise at = cc at
place_at (y ∷ list) zero x rise at =
    let same : y ≡ x = cc at in
    rw (same_bytes y.name x.name (ap (λ (z : Ups). z.name) same)) refl
place_at (y ∷ list) (suc i) x rise at =
    let before : bytes_eq y.name x.name ≡ false = sym (is_eq-slice_cmp y.name x.name) ∙
    ap is_eq (passes_at _ list i x rise.0 at) in
    rw (before, place_at list i x rise.1 at) (one-add i)

record IsNamed (list : List Ups) (u : UpsId) : Type 0 where
  word : IsWord (name_at list u)
  found : ups list (name_at list u) ≡ Some u

named : (list : List Ups) → IsList list → (u : UpsId) → Has list u → IsNamed list u
named list l u has = by (slice_get list u.place) refl has
  where
    of_ups : (x : Ups) → slice_get list u.place ≡ Some x → IsNamed list u
    of_ups x at =
        let within : u.place < length list = slice_get_within list u.place x at in
        let is : name_at list u ≡ x.name = ap (λ o. option_map_or (λ (y : Ups). y.name) o []) at in
        let lawful : IsLawfulUps x = subst IsLawfulUps (get_or_from_slice_get list u.place x x at)
        (l.lawful u.place x within) in
        let read = read_is is_name_byte false UPS_NAME_LIMIT x.name lawful.name in
        let place : place_of x.name list ≡ Some u.place =
        ap (λ n. cond (nat_lt n (length list)) (Some n) None)
        (place_at list u.place x l.by_name at) ∙
        ap (λ b. cond b (Some u.place) None) (lt-ltb u.place (length list) within) in
        record {
          word = subst IsWord (sym is) (all_also is_name_byte in_word is_word_of_name x.name read.all);
          found = ap (ups list) is ∙ ap (λ r. option_map (ups_named list) (result_ok r)) read.is
              ∙ ap (λ o. Some (option_map_or id_at o (id_at UNLISTED))) place;
        }

    by : (o : Option Ups) → slice_get list u.place ≡ o → is_some o ≡ true → IsNamed list u
    by None e h = cc h
    by (Some x) e h = of_ups x e

-- Peers, and what follows them.
driver_first : (list : List Ups) (u : UpsId) (rest : List ℕ) → IsNamed list u →
    driver_and_rest list (name_at list u ++ 32 ∷ rest) ≡ Some (Driver u, rest)
driver_first list u rest n =
    ap (with_rest (λ name. option_map (λ v. Driver v) (ups list name))) (first_word (name_at list u) rest n.word)
    ∙ ap (λ o. option_map (λ p. (p, rest)) (option_map (λ v. Driver v) o)) n.found

client_first : (c : ℕ) (rest : List ℕ) → c < 2 ^ 64 →
    client_and_rest (decimal c ++ 32 ∷ rest) ≡ Some (Client c, rest)
client_first c rest few =
    ap (with_rest (λ digits. option_map (λ d. Client d) (number digits)))
    (first_word (decimal c) rest (decimal_word c few))
    ∙ ap (λ o. option_map (λ p. (p, rest)) (option_map (λ d. Client d) o)) (number_read c few)

-- A count isn't `all`.
count_taken : (p : Peer) (n : ℕ) → n < 2 ^ 64 → taking (Some (p, decimal n)) ≡ Some (Happens (took p n))
count_taken p n few = by (bytes_eq (decimal n) (codes "all")) refl
  where
    by : (b : Bool) → bytes_eq (decimal n) (codes "all") ≡ b →
        (if b then Some (TookAll p) else option_map (λ k. Happens (took p k)) (number (decimal n)))
        ≡ Some (Happens (took p n))
    by true e =
        let bad : number (codes "all") ≡ Some n =
        ap number (sym ((bytes_eq-Decides (decimal n) (codes "all")).0 e)) ∙ number_read n few in
        cc bad
    by false e = ap (option_map (λ k. Happens (took p k))) (number_read n few)

-- Hexadecimal digits.
is_line_of_digit : (b : ℕ) → is_hex_digit b ≡ true → in_line b ≡ true
is_line_of_digit b h = by (b == 10) refl
  where
    by : (t : Bool) → (b == 10) ≡ t → not t ≡ true
    by true e = let bad : is_hex_digit 10 ≡ true = ap is_hex_digit (sym (eqb-true b 10 e)) ∙ h in cc bad
    by false e = refl

passes_all : (p : ℕ → Bool) (xs : List ℕ) → AllPass p xs → list_all p xs ≡ true
passes_all p [] h = refl
passes_all p (b ∷ xs) h = and_from (p b) (list_all p xs) (All-head (λ x. p x ≡ true) b xs h)
    (passes_all p xs (All-tail (λ x. p x ≡ true) b xs h))

digits_part : (bytes : List ℕ) → IsBytes bytes → IsPart (encode_lower bytes)
digits_part bytes h =
    all_also is_hex_digit in_line is_line_of_digit (encode_lower bytes)
    (passes_all is_hex_digit (encode_lower bytes)
    (decode_of-ok (encode_lower bytes) bytes (decode_of-encode_lower bytes h)).1)

some_digits : (bytes : List ℕ) → (length bytes == 0) ≡ false → (length (encode_lower bytes) == 0) ≡ false
some_digits bytes h = let twice = length-encode_with lower_digits bytes in grind (arith, nat_tests)

digits_read : (p : Peer) (bytes : List ℕ) → (length bytes == 0) ≡ false → IsBytes bytes →
    sending Hex (Some (p, encode_lower bytes)) ≡ Some (came_from p bytes)
digits_read p bytes some h =
    ap (λ b. option_map (came_from p)
    (if b then None else result_ok (decode_of (encode_lower bytes)))) (some_digits bytes some)
    ∙ ap (λ r. option_map (came_from p) (result_ok r)) (decode_of-encode_lower bytes h)

-- A line that is written of an event.
record IsOneLine (list : List Ups) (e : Event) : Type 0 where
  line : List ℕ
  is : line_of list e ≡ line ++ 10 ∷ []
  part : IsPart line
  loud : is_silent line ≡ false
  read : read_line list line ≡ Some (Happens e)

of_verb : (list : List Ups) (verb rest : List ℕ) → IsWord verb →
    read_line list (verb ++ 32 ∷ rest) ≡ action_of list verb rest
unfolding read_line
of_verb list verb rest h = ap (read_parts list) (first_word verb rest h)

one_line : (list : List Ups) (e : Event) (verb rest : List ℕ) → IsWord verb → IsPart rest →
    is_silent (verb ++ 32 ∷ rest) ≡ false
    → line_of list e ≡ (verb ++ 32 ∷ rest) ++ 10 ∷ [] → action_of list verb rest ≡
    Some (Happens e) → IsOneLine list e
one_line list e verb rest word part loud is read = record {
  line = verb ++ 32 ∷ rest;
  is = is;
  part = parts_joined verb (32 ∷ rest) (word_is_part verb word) part;
  loud = loud;
  read = of_verb list verb rest word ∙ read;
}

-- The rest of a line: a word, and what follows it.
rest_part : (w more : List ℕ) → IsWord w → IsPart more → IsPart (w ++ 32 ∷ more)
rest_part w more word part = parts_joined w (32 ∷ more) (word_is_part w word) part

rest_ends : (w more : List ℕ) → w ++ (32 ∷ (more ++ 10 ∷ [])) ≡ (w ++ 32 ∷ more) ++ 10 ∷ []
rest_ends w more = sym (append_assoc w (32 ∷ more) (10 ∷ []))

abbrev happens : Option Event → Option Action
happens o = option_map (λ event. Happens event) o

-- The line of the bytes of a peer, of which some are written by `hex` and none by `part`.
of_bytes : (list : List Ups) (p : Peer) (part hex who bytes : List ℕ) → IsWord part →
    IsWord hex → IsWord who → IsBytes bytes
    → ((rest : List ℕ) → is_silent (part ++ 32 ∷ rest) ≡ false) →
    ((rest : List ℕ) → is_silent (hex ++ 32 ∷ rest) ≡ false)
    → line_of list (came_from p bytes) ≡ verb_of_bytes part hex bytes ++
    (32 ∷ (who ++ (32 ∷ (encode_lower bytes ++ 10 ∷ []))))
    → ((rest : List ℕ) → action_of list part (who ++ 32 ∷ rest) ≡ happens (sending Part (Some (p, rest))))
    → ((rest : List ℕ) → action_of list hex (who ++ 32 ∷ rest) ≡ happens (sending Hex (Some (p, rest))))
    → IsOneLine list (came_from p bytes)
unfolding encode_with
of_bytes list p part hex who [] part_word hex_word word h part_loud hex_loud is part_reads hex_reads =
    one_line list (came_from p []) part (who ++ 32 ∷ []) part_word (rest_part who [] word refl)
    (part_loud (who ++ 32 ∷ []))
    (is ∙ ap (λ xs. part ++ 32 ∷ xs) (rest_ends who []) ∙
    sym (append_assoc part (32 ∷ (who ++ 32 ∷ [])) (10 ∷ []))) (part_reads [])
of_bytes list p part hex who (b ∷ bytes) part_word hex_word word h part_loud hex_loud is part_reads hex_reads =
    let some : (length (b ∷ bytes) == 0) ≡ false = grind (arith, nat_tests) in
    let digits : List ℕ = encode_lower (b ∷ bytes) in
    one_line list (came_from p (b ∷ bytes)) hex (who ++ 32 ∷ digits) hex_word
    (rest_part who digits word (digits_part (b ∷ bytes) h)) (hex_loud (who ++ 32 ∷ digits))
    (is ∙ ap (λ t. (if t then part else hex) ++ (32 ∷ (who ++ (32 ∷ (digits ++ 10 ∷ [])))))
    some ∙ ap (λ xs. hex ++ 32 ∷ xs) (rest_ends who digits) ∙
    sym (append_assoc hex (32 ∷ (who ++ 32 ∷ digits)) (10 ∷ [])))
    (hex_reads digits ∙ ap happens (digits_read p (b ∷ bytes) some h))

module _ (list : List Ups) (l : IsList list) where
  of_driver : (u : UpsId) (bytes : List ℕ) → Has list u → IsBytes bytes →
      IsOneLine list (happening.DriverBytes u bytes)
  of_driver u bytes has h =
      let n = named list l u has in
      of_bytes list (Driver u) (codes "driver-part") (codes "driver-hex") (name_at list u) bytes
      refl refl n.word h (λ rest. refl) (λ rest. refl) refl
      (λ rest. ap (λ o. happens (sending Part o)) (driver_first list u rest n))
      (λ rest. ap (λ o. happens (sending Hex o)) (driver_first list u rest n))

  of_client : (c : ℕ) (bytes : List ℕ) → c < 2 ^ 64 → IsBytes bytes → IsOneLine list (happening.Feed c bytes)
  of_client c bytes few h =
      of_bytes list (Client c) (codes "part") (codes "client-hex") (decimal c) bytes refl refl
      (decimal_word c few) h (λ rest. refl) (λ rest. refl) refl
      (λ rest. ap (λ o. happens (sending Part o)) (client_first c rest few))
      (λ rest. ap (λ o. happens (sending Hex o)) (client_first c rest few))

  one_line_of : (e : Event) → IsEventOf list e → IsOneLine list e
  one_line_of (happening.DriverUp u) has =
      let n = named list l u has in
      one_line list (happening.DriverUp u) (codes "up") (name_at list u) refl
      (word_is_part (name_at list u) n.word) refl refl
      (ap (λ o. happens (option_map (λ v. happening.DriverUp v) o)) n.found)
  one_line_of (happening.DriverDown u) has =
      let n = named list l u has in
      one_line list (happening.DriverDown u) (codes "down") (name_at list u) refl
      (word_is_part (name_at list u) n.word) refl refl
      (ap (λ o. happens (option_map (λ v. happening.DriverDown v) o)) n.found)
  one_line_of (happening.DriverBytes u bytes) h = of_driver u bytes h.0 h.1
  one_line_of (happening.DriverTook u n) h =
      let name = named list l u h.0 in
      one_line list (happening.DriverTook u n) (codes "driver-took") (name_at list u ++ 32 ∷ decimal n) refl
      (rest_part (name_at list u) (decimal n) name.word (word_is_part (decimal n) (decimal_word n h.1))) refl
      (ap (λ xs. codes "driver-took " ++ xs) (rest_ends (name_at list u) (decimal n)))
      (ap taking (driver_first list u (decimal n) name) ∙ count_taken (Driver u) n h.1)
  one_line_of (happening.Tick n) few = one_line list (happening.Tick n) (codes "tick") (decimal n) refl
      (word_is_part (decimal n) (decimal_word n few)) refl refl
      (ap (λ o. happens (option_map (λ k. happening.Tick k) o)) (number_read n few))
  one_line_of (happening.Open a) lawful =
      let read = read_is is_address_byte false ADDRESS_LIMIT a lawful in
      one_line list (happening.Open a) (codes "open") a refl
      (word_is_part a (all_also is_address_byte in_word is_word_of_address a read.all)) refl refl
      (ap (λ r. happens (option_map (λ b. happening.Open b) (result_ok r))) read.is)
  one_line_of (happening.Feed c bytes) h = of_client c bytes h.0 h.1
  one_line_of (happening.Took c n) h =
      one_line list (happening.Took c n) (codes "took") (decimal c ++ 32 ∷ decimal n) refl
      (rest_part (decimal c) (decimal n) (decimal_word c h.0) (word_is_part (decimal n) (decimal_word n h.1))) refl
      (ap (λ xs. codes "took " ++ xs) (rest_ends (decimal c) (decimal n)))
      (ap taking (client_first c (decimal n) h.0) ∙ count_taken (Client c) n h.1)
  one_line_of (happening.Close c) few = one_line list (happening.Close c) (codes "close") (decimal c) refl
      (word_is_part (decimal c) (decimal_word c few)) refl refl
      (ap (λ o. happens (option_map (λ d. happening.Close d) o)) (number_read c few))
  one_line_of (happening.Id id) few =
      one_line list (happening.Id id) (codes "id") (id_text id) refl
      (word_is_part (id_text id) (all_also is_id_byte in_word is_word_of_id (id_text id)
      (ids_are_plain.digits id))) refl refl
      (ap (λ o. happens (option_map (λ n. happening.Id n) o)) (written_is_read id few))

-- A line of an event says no age.
no_age : (list : List Ups) (line : List ℕ) (a : Action) → read_line list line ≡ Some a → age_in line ≡ None
unfolding read_line
no_age list line a read = by (split_at_space line) read
  where
    of : (verb text : List ℕ) (b : Bool) → bytes_eq verb (codes "maxage") ≡ b →
        action_of list verb text ≡ Some a
        → (if b then option_and_then read_max_age (read_natural MAX_AGE_MOST text) else None) ≡ None
    of verb text true is read = let bad : action_of list (codes "maxage") text ≡ Some a =
        ap (λ v. action_of list v text) (sym ((bytes_eq-Decides verb (codes "maxage")).0 is)) ∙ read in cc bad
    of verb text false is read = refl

    by : (parts : Option (List ℕ × List ℕ)) → read_parts list parts ≡ Some a → age_by parts ≡ None
    by None read = refl
    by (Some (verb, text)) read = of verb text (bytes_eq verb (codes "maxage")) refl read

-- One more line, which says no age, and what it asks for wherever it stands.
abbrev asked : List ScriptLine → List Action
asked lines = map (λ line. line.action) lines

record AsksFor (list : List Ups) (line : List ℕ) (here : List Action) : Type 0 where
  part : IsPart line
  ageless : age_in line ≡ None
  good : (n : ℕ) → is_bad list n line ≡ false
  asks : (n : ℕ) → asked (if asks_nothing n line then [] else numbered n (read_line list line)) ≡ here

asks_for_event : (list : List Ups) (e : Event) (one : IsOneLine list e) → AsksFor list one.line (Happens e ∷ [])
asks_for_event list e one = record {
  part = one.part;
  ageless = no_age list one.line (Happens e) one.read;
  good = λ n. ap (λ o. not (asks_nothing n one.line) && not (is_some o)) one.read ∙
      and_right (not (asks_nothing n one.line)) false refl;
  asks = λ n. ap (λ b. asked (if b then [] else numbered n (read_line list one.line))) (loud n)
      ∙ ap (λ o. asked (numbered n o)) one.read;
}
  where
    loud : (n : ℕ) → asks_nothing n one.line ≡ false
    loud n = ap (λ b. b || (n == 1 && is_some (age_in one.line))) one.loud ∙
        ap (λ o. n == 1 && is_some o) (no_age list one.line (Happens e) one.read) ∙ and_right (n == 1) false refl

good_then : (list : List Ups) (n : ℕ) (lines : List (List ℕ)) (line : List ℕ) →
    ((m : ℕ) → is_bad list m line ≡ false) → bad_line_from list n lines ≡ None →
    bad_line_from list n (lines ++ line ∷ []) ≡ None
good_then list n [] line fine good = ap (λ b. if b then Some n else None) (fine n)
good_then list n (first ∷ lines) line fine good =
    by (is_bad list n first) (bad_line_from list (n + 1) lines)
    (bad_line_from list (n + 1) (lines ++ line ∷ [])) (good_then list (n + 1) lines line fine) good
  where
    by : (b : Bool) (old new : Option ℕ) → (old ≡ None → new ≡ None) →
        (if b then Some n else old) ≡ None → (if b then Some n else new) ≡ None
    by true old new step h = h
    by false old new step h = step h

asked_then : (list : List Ups) (n : ℕ) (lines : List (List ℕ)) (line : List ℕ)
    (here : List Action) → AsksFor list line here
    → asked (actions_from list n (lines ++ line ∷ [])) ≡ asked (actions_from list n lines) ++ here
asked_then list n [] line here is =
    ap asked (append-nil (if asks_nothing n line then [] else numbered n (read_line list line))) ∙ is.asks n
asked_then list n (first ∷ lines) line here is =
    let before : List ScriptLine = if asks_nothing n first then [] else numbered n (read_line list first) in
    let rest : List ScriptLine = actions_from list (n + 1) lines in
    map-append (λ (l : ScriptLine). l.action) before (actions_from list (n + 1) (lines ++ line ∷ []))
    ∙ ap (λ xs. asked before ++ xs) (asked_then list (n + 1) lines line here is)
    ∙ sym (append_assoc (asked before) (asked rest) here)
    ∙ ap (λ xs. xs ++ here) (sym (map-append (λ (l : ScriptLine). l.action) before rest))

age_then : (lines : List (List ℕ)) (line : List ℕ) → age_in line ≡ None →
    age_of_lines (lines ++ line ∷ []) ≡ age_of_lines lines
age_then [] line none = ap (λ o. unwrap_or o MAX_AGE_DEFAULT) none
age_then (first ∷ lines) line none = refl

line_then : (list : List Ups) (max_age : ℕ) (script line text : List ℕ)
    (events more : List Event) → text ≡ line ++ 10 ∷ [] → AsksFor list line (map (λ e. Happens e) more)
    → IsReadAs list max_age script events → IsReadAs list max_age (script ++ text) (events ++ more)
unfolding actions_of first_bad_line max_age_of
line_then list max_age script line text events more is one read =
    let with_more : (xs : List ℕ) → lines_of (script ++ (text ++ xs)) ≡ lines_of script ++
    line ∷ lines_of xs = λ xs.
    read.whole (text ++ xs) ∙ ap (λ t. lines_of script ++ lines_of (t ++ xs)) is ∙
    ap (λ t. lines_of script ++ lines_of t) (append_assoc line (10 ∷ []) xs) ∙
    ap (λ ls. lines_of script ++ ls) (first_line line xs one.part) in
    let lines : lines_of (script ++ text) ≡ lines_of script ++ line ∷ [] =
    ap (λ t. lines_of (script ++ t)) (sym (append-nil text)) ∙ with_more [] in
    record {
      age = ap age_of_lines lines ∙ age_then (lines_of script) line one.ageless ∙ read.age;
      good = ap (bad_line_from list 1) lines ∙ good_then list 1 (lines_of script) line one.good read.good;
      actions = ap (λ ls. asked (actions_from list 1 ls)) lines ∙
          asked_then list 1 (lines_of script) line (map (λ e. Happens e) more) one
          ∙ ap (λ xs. xs ++ map (λ e. Happens e) more) read.actions ∙
          sym (map-append (λ e. Happens e) events more);
      whole = λ xs. ap lines_of (append_assoc script text xs) ∙ with_more xs ∙
          sym (ap (λ ls. ls ++ lines_of xs) lines ∙ append_assoc (lines_of script) (line ∷ []) (lines_of xs));
    }

pub what_is_written_is_read_back : WhatIsWrittenIsReadBack
what_is_written_is_read_back list max_age script events next l lawful read =
    let one = one_line_of list l next lawful in
    line_then list max_age script one.line (line_of list next) events (next ∷ []) one.is
    (asks_for_event list next one) read

-- The first lines of a record.
age_read : (n : ℕ) → read_max_age n ≡ Some n → n < 2 ^ 64 →
    option_and_then read_max_age (read_natural MAX_AGE_MOST (decimal n)) ≡ Some n
age_read n may few =
    ap (λ o. option_and_then read_max_age o)
    (natural_read MAX_AGE_MOST n few (within (nat_le MAX_AGE_LEAST n) (nat_le n MAX_AGE_MOST) refl may)) ∙ may
  where
    within : (a b : Bool) → nat_le n MAX_AGE_MOST ≡ b → (if a && b then Some n else None) ≡
        Some n → nat_le n MAX_AGE_MOST ≡ true
    within a true is h = is
    within true false is h = cc h
    within false false is h = cc h

age_is_read : (list : List Ups) (n : ℕ) → read_max_age n ≡ Some n → n < 2 ^ 64 →
    IsReadAs list n (age_line n) []
unfolding actions_of first_bad_line max_age_of
age_is_read list n may few =
    let line : List ℕ = codes "maxage" ++ 32 ∷ decimal n in
    let part : IsPart line = parts_joined (codes "maxage") (32 ∷ decimal n) refl
    (word_is_part (decimal n) (decimal_word n few)) in
    let lines : (more : List ℕ) → lines_of (age_line n ++ more) ≡ line ∷ lines_of more =
    λ more. ap lines_of (append_assoc line (10 ∷ []) more) ∙ first_line line more part in
    let alone : lines_of (age_line n) ≡ line ∷ [] = first_line line [] part in
    let age : age_in line ≡ Some n = ap age_by (first_word (codes "maxage") (decimal n) refl) ∙
    age_read n may few in
    let silent : asks_nothing 1 line ≡ true = ap (λ o. is_silent line || is_some o) age in
    record {
      age = ap age_of_lines alone ∙ ap (λ o. unwrap_or o MAX_AGE_DEFAULT) age;
      good = ap (bad_line_from list 1) alone ∙
          ap (λ b. if not b && not (is_some (read_line list line)) then Some 1 else None) silent;
      actions = ap (λ ls. asked (actions_from list 1 ls)) alone ∙
          ap (λ b. asked ((if b then [] else numbered 1 (read_line list line)) ++ [])) silent;
      whole = λ more. lines more ∙ sym (ap (λ ls. ls ++ lines_of more) alone);
    }

-- A comment.
comment_is_read : (list : List Ups) (max_age : ℕ) (script text : List ℕ) → IsPart text →
    IsReadAs list max_age script [] → IsReadAs list max_age (script ++ comment_line text) []
comment_is_read list max_age script text part read =
    line_then list max_age script (35 ∷ 32 ∷ text) (comment_line text) [] [] refl (record {
      part = part;
      ageless = ap age_by (first_word (codes "#") text refl);
      good = λ n. refl;
      asks = λ n. refl;
    }) read

pub a_head_is_read : AHeadIsRead
a_head_is_read list max_age comment lawful = by (is_one_line comment) refl
  where
    may : read_max_age max_age ≡ Some max_age
    may = ap (λ b. if b then Some max_age else None)
        (and_from (nat_le MAX_AGE_LEAST max_age) (nat_le max_age MAX_AGE_MOST) (le-leb _ _ lawful.0)
        (le-leb _ _ lawful.1))

    age : IsReadAs list max_age (age_line max_age) []
    age = age_is_read list max_age may (omega (arith, lawful.1))

    by : (b : Bool) → is_one_line comment ≡ b →
        IsReadAs list max_age (age_line max_age ++ (if b then comment_line comment else [])) []
    by true is = comment_is_read list max_age (age_line max_age) comment is age
    by false is = subst (λ text. IsReadAs list max_age text []) (sym (append-nil (age_line max_age))) age
