-- A listing of lawful things is read back: its words as they are written, and how long its lines
-- are.
use Rattle.std.proofs.Common.{◌≡◌, ℕ, ◌+◌, ◌*◌, ◌<◌, ◌≤◌, Bool, true}
use Rattle.std.proofs.Common.{false, List, [], ◌∷◌, length, Option, refl, arith}
use Rattle.std.proofs.Common.{length-append, subst}
use Rattle.std.specs.Prelude.{is_ok, IsTrue, IfSome, All, codes, map, filter}
use Rattle.std.specs.Fmt.{signed_decimal}
use Rattle.std.specs.List.{AllZip, join_with_byte}
use Rattle.std.specs.BTreeMap.{is_at}
use Rattle.std.proofs.lemmas.Map.Views.{IfSome-lookup_from_All}
use Rattle.std.specs.Map.{keys_of, values_of}
use Rattle.std.proofs.lemmas.Bool.Decides.{nat_tests}
use Rattle.std.proofs.lemmas.Grind.{common_steps}
use Rattle.std.proofs.lemmas.Int.{ints}
use Rattle.std.proofs.lemmas.List.Elements.{All-head, All-tail, All-nil, All-cons, All-filter}
use Rattle.nutwords.specs.Bytes.{is_bare, is_name_byte, is_address_byte}
use Rattle.nutwords.specs.Frame.{line_of, frame}
use Rattle.nutwords.specs.Listing.{IsWritten, IsWrittenLine, as_it_is, in_quotes, ReadsAsLines, listing_words}
use Rattle.nutwords.specs.Reading.{read_text, is_name, is_ups_name, is_address, is_value}
use Rattle.nutwords.specs.Spelling.{quoted}
use Rattle.nutwords.specs.declared.limits.TheConstants.{LINE_ROOM, LINE_LIMIT, VALUE_LIMIT}
use Rattle.nutwords.specs.declared.limits.TheConstants.{NAME_LIMIT, UPS_NAME_LIMIT, ADDRESS_LIMIT}
use Rattle.nutwords.proofs.PublicLaws.{listing_is_read_back, one_reading}
use Rattle.nutdriver.specs.Sound.{IsSoundRange, IsSoundVariable}
use Rattle.nutdriver.specs.Tree.{byte_order}
use Rattle.nutdriver.specs.Variable.{VariableState}
use Rattle.nutusers.specs.UpsList.{IsLawfulUps}
use Rattle.nutlisting.specs.Lawful.{IsLawfulText, room, IsSoundEntry, SoundTreesHaveSoundEntries}
use Rattle.nutlisting.specs.Items.{is_rw, variable_item, command_item, enum_item, range_item, ups_item, client_item}
use Rattle.nutlisting.specs.ReadsBack.{variable_words, enum_words, range_words, ups_words}
use Rattle.nutlisting.specs.ReadsBack.{ReadsBack, LawfulListingsReadBack}
use Rattle.nutlisting.specs.Shown.{shown, ups_description}
use Rattle.nutlisting.specs.declared.lines.TheConstants.{SHOWN_LIMIT}
use Rattle.nutlisting.proofs.Lawful.{joined_text, texts_are_lawful}
use Rattle.nutwords.proofs.BytesRead.{text_all, all_also, text_some, address_byte-bare}
use Rattle.nutwords.proofs.Listing.{name_byte-bare}

-- a word of a line: what it means, how it is written, and that it has at most so many bytes
record Word : Type 0 where
  meant : List ℕ
  shown : List ℕ
  most : ℕ
  written : IsWritten shown meant
  text : IsLawfulText most shown

abbrev bare_word : (allowed : ℕ → Bool) (most : ℕ) (bytes : List ℕ) →
    ((b : ℕ) → allowed b ≡ true → is_bare b ≡ true) →
    is_ok (read_text allowed false most bytes) ≡ true → IsLawfulText most bytes → Word
bare_word allowed most bytes bare h text =
    record {
      meant = bytes;
      shown = bytes;
      most = most;
      written =
          as_it_is (text_some allowed most bytes h)
          (all_also allowed is_bare bare bytes (text_all allowed false most bytes h));
      text = text;
    }

abbrev name_word : (name : List ℕ) → IsTrue (is_name name) → Word
name_word name h = bare_word is_name_byte NAME_LIMIT name name_byte-bare h (texts_are_lawful.names name h)

abbrev ups_word : (name : List ℕ) → IsTrue (is_ups_name name) → Word
ups_word name h = bare_word is_name_byte UPS_NAME_LIMIT name name_byte-bare h (texts_are_lawful.ups_names name h)

abbrev address_word : (address : List ℕ) → IsTrue (is_address address) → Word
address_word address h = bare_word is_address_byte ADDRESS_LIMIT address address_byte-bare h
    (texts_are_lawful.addresses address h)

-- a text is written in quotes
abbrev text_word : (few : ℕ) (text : List ℕ) → IsLawfulText few text → Word
text_word few text h = record {
  meant = text;
  shown = quoted text;
  most = 2 * few + 2;
  written = in_quotes h.lawful;
  text = texts_are_lawful.quoted few text h;
}

-- a line of words is written as they are, and is as short as they are
abbrev texts : List Word → List (List ℕ)
texts ws = map (λ (w : Word). w.shown) ws

abbrev meanings : List Word → List (List ℕ)
meanings ws = map (λ (w : Word). w.meant) ws

abbrev mosts : List Word → List ℕ
mosts ws = map (λ (w : Word). w.most) ws

all_written : (ws : List Word) → AllZip IsWritten (texts ws) (meanings ws)
all_written [] = tt
all_written (w ∷ ws) = (w.written, all_written ws)

all_lawful : (ws : List Word) → AllZip IsLawfulText (mosts ws) (texts ws)
all_lawful [] = tt
all_lawful (w ∷ ws) = (w.text, all_lawful ws)

line_short : (ws : List Word) → room (mosts ws) ≤ LINE_LIMIT → length (line_of (texts ws)) ≤ LINE_ROOM
line_short ws few = let short = (joined_text (mosts ws) (texts ws) (all_lawful ws)).short in
    omega (arith, short, few, length-append (join_with_byte 32 (texts ws)) (10 ∷ []))

line_written : (ws : List Word) → room (mosts ws) ≤ LINE_LIMIT → IsWrittenLine (texts ws) (meanings ws)
line_written ws few = record { written = all_written ws; fits = line_short ws few }

-- the lines of items, each of what has a property
rows_written : {X : Type 0} (P : X → Type 0) (item words : X → List (List ℕ)) →
    ((x : X) → P x → IsWrittenLine (item x) (words x)) → (xs : List X) → All P xs →
    AllZip IsWrittenLine (map item xs) (map words xs)
rows_written P item words each [] all = tt
rows_written P item words each (x ∷ xs) all =
    (each x (All-head P x xs all), rows_written P item words each xs (All-tail P x xs all))

-- the entries of a sound tree
all_entries : (entries : List (List ℕ × VariableState)) →
    All (λ name. IsTrue (is_name name)) (keys_of entries) →
    All IsSoundVariable (values_of entries) → All IsSoundEntry entries
all_entries [] names values = All-nil IsSoundEntry
all_entries (entry ∷ entries) names values =
    All-cons IsSoundEntry entry entries (
      All-head (λ name. IsTrue (is_name name)) entry.0 (keys_of entries) names,
      All-head IsSoundVariable entry.1 (values_of entries) values,
    )
    (all_entries entries (All-tail (λ name. IsTrue (is_name name)) entry.0 (keys_of entries) names)
    (All-tail IsSoundVariable entry.1 (values_of entries) values))

pub sound_entries : SoundTreesHaveSoundEntries
sound_entries = record {
  entries = λ tree sound. all_entries tree.variables sound.names sound.variables;
  found = λ tree name variable sound e. subst
      (λ (o : Option VariableState). IfSome o IsSoundVariable) e
      (IfSome-lookup_from_All IsSoundVariable (is_at (byte_order name)) tree.variables sound.variables);
}

-- a listing of a kind, with these names: its first line is of words too
reads_back : (kind : Word) (names : List Word) (items rows : List (List (List ℕ))) →
    room (mosts (name_word (codes "BEGIN") refl ∷ name_word (codes "LIST") refl ∷ kind ∷ names)) ≤ LINE_LIMIT
    → AllZip IsWrittenLine items rows →
    ReadsBack (frame kind.shown (texts names) items) (meanings (kind ∷ names)) rows
reads_back kind names items rows few written =
    let asked : List (List ℕ) = meanings (kind ∷ names) in
    let text = frame kind.shown (texts names) items in
    let reads : ReadsAsLines text (listing_words asked rows) =
    listing_is_read_back kind.shown (texts names) asked items rows (all_written (kind ∷ names))
    (line_short (name_word (codes "BEGIN") refl ∷ name_word (codes "LIST") refl ∷ kind ∷ names) few) written in
    record { reads = reads; only = λ others h. one_reading text (listing_words asked rows) others reads h }

-- the variables of a UPS, all of them or some, by a word that is a name
variables_back : (word ups : List ℕ) (fsd : Bool) (entries : List (List ℕ × VariableState)) →
    IsTrue (is_name word) → IsTrue (is_ups_name ups) → All IsSoundEntry entries
    → ReadsBack (frame word (ups ∷ []) (map (variable_item word ups fsd) entries))
    (word ∷ ups ∷ []) (map (variable_words word ups fsd) entries)
variables_back word ups fsd entries w u all =
    reads_back (name_word word w) (ups_word ups u ∷ []) _ _ (omega arith)
    (rows_written IsSoundEntry (variable_item word ups fsd) (variable_words word ups fsd)
    (λ entry h. line_written (name_word word w ∷ ups_word ups u ∷ name_word entry.0 h.0 ∷
    text_word SHOWN_LIMIT (shown fsd entry.0 entry.1)
    (texts_are_lawful.shown fsd entry.0 entry.1 h.1.value) ∷ []) (omega arith)) entries all)

pub lawful_listings_read_back : LawfulListingsReadBack
lawful_listings_read_back = record {
  variables = λ ups fsd tree u sound. variables_back (codes "VAR") ups fsd tree.variables refl u
      (sound_entries.entries tree sound);
  rw = λ ups fsd tree u sound. variables_back (codes "RW") ups fsd (filter is_rw tree.variables)
      refl u (All-filter is_rw IsSoundEntry tree.variables (sound_entries.entries tree sound));
  commands = λ ups tree u sound.
      reads_back (name_word (codes "CMD") refl) (ups_word ups u ∷ []) _ _ (omega arith)
      (rows_written (λ name. IsTrue (is_name name)) (command_item ups) (command_item ups)
      (λ name n. line_written (name_word (codes "CMD") refl ∷ ups_word ups u ∷
      name_word name n ∷ []) (omega arith)) tree.commands sound.commands);
  enum_values = λ ups name variable u n sound.
      reads_back (name_word (codes "ENUM") refl) (ups_word ups u ∷ name_word name n ∷ []) _ _ (omega arith)
      (rows_written (λ value. IsTrue (is_value value)) (enum_item ups name) (enum_words ups name)
      (λ value v. line_written (name_word (codes "ENUM") refl ∷ ups_word ups u ∷
      name_word name n ∷ text_word VALUE_LIMIT value (texts_are_lawful.values value v) ∷ [])
      (omega arith)) variable.enum_values sound.enum_values);
  ranges = λ ups name variable u n sound.
      reads_back (name_word (codes "RANGE") refl) (ups_word ups u ∷ name_word name n ∷ []) _ _ (omega arith)
      (rows_written IsSoundRange (range_item ups name) (range_words ups name) (λ range r.
      let least : Word = text_word 11 (signed_decimal range.least)
      (texts_are_lawful.numbers range.least r.least (omega (arith, ints, r.rises, r.greatest))) in
      let greatest : Word = text_word 11 (signed_decimal range.greatest)
      (texts_are_lawful.numbers range.greatest (omega (arith, ints, r.least, r.rises)) r.greatest) in
      line_written (name_word (codes "RANGE") refl ∷ ups_word ups u ∷ name_word name n ∷
      least ∷ greatest ∷ []) (omega arith)) variable.ranges sound.ranges);
  upses = λ upses lawful.
      reads_back (name_word (codes "UPS") refl) [] _ _ (omega arith)
      (rows_written IsLawfulUps ups_item ups_words
      (λ ups h. line_written (name_word (codes "UPS") refl ∷ ups_word ups.name h.name ∷
      text_word VALUE_LIMIT (ups_description ups)
      (texts_are_lawful.ups_described ups.desc h.description) ∷ []) (omega arith)) upses lawful);
  clients = λ ups addresses u lawful.
      reads_back (name_word (codes "CLIENT") refl) (ups_word ups u ∷ []) _ _ (omega arith)
      (rows_written (λ address. IsTrue (is_address address)) (client_item ups) (client_item ups)
      (λ address h. line_written (name_word (codes "CLIENT") refl ∷ ups_word ups u ∷
      address_word address h ∷ []) (omega arith)) addresses lawful);
}
