-- What is printed of what the server answers.
use Rattle.std.proofs.Common.{◌≡◌, ℕ, ◌≤◌, Bool, true, Some, List, [], ◌∷◌}
use Rattle.std.proofs.Common.{◌++◌, length, refl, ap, subst, ◌∙◌, arith, append-nil, sym}
use Rattle.std.proofs.Common.{false}
use Rattle.std.specs.Prelude.{false, codes, map, All, IsTrue, IfSome, filter}
use Rattle.std.specs.List.{AllZip, flat_map}
use Rattle.std.specs.BTreeMap.{is_at}
use Rattle.std.specs.Map.{keys_of, values_of}
use Rattle.std.specs.Fmt.{decimal}
use Rattle.std.proofs.lemmas.List.{length-map}
use Rattle.std.proofs.lemmas.List.Sums.{length-filter, count_by-le-length}
use Rattle.std.proofs.lemmas.Map.Views.{IfSome-lookup_from_All}
use Rattle.std.proofs.lemmas.List.Elements.{All-head, All-tail, All-nil, All-cons, All-filter, All-weaker}
use Rattle.nutwords.specs.Bytes.{is_name_byte, is_address_byte}
use Rattle.nutwords.specs.Frame.{frame, line_of, begin_line}
use Rattle.nutwords.specs.Listing.{as_it_is, IsWrittenLine, IsWritten}
use Rattle.nutwords.specs.Reading.{is_name, is_ups_name, is_value}
use Rattle.nutwords.specs.Spelling.{quoted}
use Rattle.nutwords.specs.SplitLine.{with_lf}
use Rattle.nutdriver.specs.Sound.{IsSoundVariable, IsSoundTree}
use Rattle.nutdriver.specs.Tree.{byte_order}
use Rattle.nutdriver.specs.Variable.{VariableState}
use Rattle.nutusers.specs.UpsList.{Ups, IsLawfulUps}
use Rattle.nutlisting.specs.Items.{variable_item, is_rw, command_item, client_item, ups_item}
use Rattle.nutlisting.specs.Shown.{shown, ups_description}
use Rattle.nutanswer.specs.Checks.{KnownUps, ups_named}
use Rattle.nutanswer.specs.View.{Seen}
use Rattle.nutanswer.proofs.PublicLaws.{a_named_ups_is_seen}
use Rattle.nutcore.specs.ByRight.{WhatIsCountedIsWhoIsThere, logged_in, is_logged_in_of}
use Rattle.nutcore.specs.Listed.{EachIsListedOnce, WhatIsListedIsWhatIsHeld}
use Rattle.nutcore.specs.ReadsBack.{HasLawfulAddress}
use Rattle.nutcore.specs.Reply.{seen}
use Rattle.nutcore.specs.Reply as server
use Rattle.nutcore.specs.Session.{SessionState}
use Rattle.nutrequest.specs.declared.item.Item.{Item}
use Rattle.nutrequest.specs.declared.request.Query.TheVariants as queries
use Rattle.nutrequest.specs.declared.request.Request.{Request}
use Rattle.nutrequest.specs.declared.request.Request.TheVariants as requests
use Rattle.nutrequest.specs.declared.request.Query.{Query}
use Rattle.nutrequest.specs.Request.{has_value}
use Rattle.nutrequest.specs.Reply.{Reply, Whole, reply, one_item, is_item_name}
use Rattle.nutclient.specs.Requests.{reply_behind}
use Rattle.nutclient.specs.Printed.{Prints, printed, printed_of, item_line, text_of}
use Rattle.nutclient.specs.declared.form.Form.{Form}
use Rattle.nutclient.specs.declared.form.Form.TheVariants as forms
use Rattle.endtoend.specs.Frames.{item_words, IsItem}
use Rattle.endtoend.specs.Served.{HasVariable}
use Rattle.endtoend.specs.Printed.{variable_line, setting_line, UpsrwPrintsTheVariables}
use Rattle.endtoend.specs.Printed.{UpscmdPrintsTheCommands, name_lines, description_line}
use Rattle.endtoend.specs.Printed.{description_lines, UpscPrintsTheVariables, UpscPrintsTheVariable}
use Rattle.endtoend.specs.Printed.{UpscPrintsHowManyAreLoggedIn, UpscPrintsWhoIsLoggedIn}
use Rattle.endtoend.specs.Printed.{UpscPrintsTheUpses}
use Rattle.endtoend.proofs.FrameReading.{frame_read, number_read, value_read}
use Rattle.endtoend.proofs.Numbers.{written_number}
use Rattle.nutwords.proofs.PublicLaws.{quoted_is_short}
use Rattle.endtoend.proofs.Texts.{name_written, ups_name_written, address_written}
use Rattle.endtoend.proofs.Texts.{quoted_written, shown_lawful, description_lawful}
use Rattle.endtoend.proofs.Requests.{list_var_read, list_rw_read, list_cmd_read, list_client_read}
use Rattle.endtoend.proofs.Requests.{list_ups_read, num_attach_read, get_var_read, line_of_three}
use Rattle.endtoend.proofs.Requests.{line_of_four}
use Rattle.nutwords.specs.declared.limits.TheConstants.{LINE_ROOM, NAME_LIMIT, UPS_NAME_LIMIT, ADDRESS_LIMIT}
use Rattle.nutrequest.specs.declared.limits.TheConstants.{ITEM_LIMIT}
use Rattle.nutwords.proofs.BytesRead.{text_short}

-- one request, whose reply is whole
printed_whole : (request : Request) (form : Form) (bytes : List ℕ) (items : List Item)
    (rest : List ℕ) → reply request bytes ≡ Whole items rest →
    printed (request ∷ []) form bytes ≡ Prints (text_of form items)
printed_whole request form bytes items rest h =
    ap (λ (r : Reply). printed_of form (reply_behind r (λ more behind. Whole more behind))) h

-- a variable as an item
abbrev variable_of : Bool → List ℕ × VariableState → Item
variable_of fsd entry = record { name = entry.0; value = shown fsd entry.0 entry.1 }

-- an entry of a sound tree
abbrev IsLawfulEntry : List ℕ × VariableState → Type 0
IsLawfulEntry entry = IsTrue (is_name entry.0) × IsTrue (is_value entry.1.value)

entries_lawful : (entries : List (List ℕ × VariableState)) →
    All (λ name. IsTrue (is_name name)) (keys_of entries) →
    All IsSoundVariable (values_of entries) → All IsLawfulEntry entries
entries_lawful [] names values = All-nil IsLawfulEntry
entries_lawful (entry ∷ entries) names values =
    All-cons IsLawfulEntry entry entries (
      All-head (λ name. IsTrue (is_name name)) entry.0 (keys_of entries) names,
      (All-head IsSoundVariable entry.1 (values_of entries) values).value,
    )
    (entries_lawful entries (All-tail (λ name. IsTrue (is_name name)) entry.0 (keys_of entries)
    names) (All-tail IsSoundVariable entry.1 (values_of entries) values))

-- the line of a variable, after the word of its listing
variable_written : (word ups : List ℕ) (fsd : Bool) (entry : List ℕ × VariableState) →
    IsWritten word word → length word ≤ 64 → is_ups_name ups ≡ true → IsLawfulEntry entry
    → IsWrittenLine (variable_item word ups fsd entry) (word ∷ ups ∷ entry.0 ∷ shown fsd entry.0 entry.1 ∷ [])
variable_written word ups fsd entry w few h lawful =
    let value = shown fsd entry.0 entry.1 in
    let s = shown_lawful fsd entry.0 entry.1 lawful.1 in
    record {
      written = (w, (ups_name_written ups h, (name_written entry.0 lawful.0, (quoted_written value s.0, tt))));
      fits = omega (
        arith,
        few,
        text_short is_name_byte false UPS_NAME_LIMIT ups h,
        text_short is_name_byte false NAME_LIMIT entry.0 lawful.0,
        s.1,
        quoted_is_short value,
        line_of_four word ups entry.0 (quoted value),
      );
    }

variables_written : (query : Query) (word ups : List ℕ) (fsd : Bool)
    (entries : List (List ℕ × VariableState)) →
    ((item : Item) → item_words query item ≡ word ∷ ups ∷ item.name ∷ item.value ∷ [])
    → IsWritten word word → length word ≤ 64 → is_ups_name ups ≡ true → All IsLawfulEntry entries
    → AllZip IsWrittenLine (map (variable_item word ups fsd) entries)
    (map (item_words query) (map (variable_of fsd) entries))
variables_written query word ups fsd [] same w few h lawful = tt
variables_written query word ups fsd (entry ∷ entries) same w few h lawful = (
  subst (λ words. IsWrittenLine (variable_item word ups fsd entry) words)
      (sym (same (variable_of fsd entry)))
      (variable_written word ups fsd entry w few h (All-head IsLawfulEntry entry entries lawful)),
  variables_written query word ups fsd entries same w few h (All-tail IsLawfulEntry entry entries lawful),
)

variables_known : (query : Query) (fsd : Bool) (entries : List (List ℕ × VariableState)) →
    ((name : List ℕ) → is_name name ≡ true → is_item_name query name ≡ true) →
    has_value query ≡ true → All IsLawfulEntry entries
    → All (IsItem query) (map (variable_of fsd) entries)
variables_known query fsd [] named valued lawful = All-nil (IsItem query)
variables_known query fsd (entry ∷ entries) named valued lawful =
    All-cons (IsItem query) (variable_of fsd entry) (map (variable_of fsd) entries)
    (record {
      name = named entry.0 (All-head IsLawfulEntry entry entries lawful).0;
      value = λ none. let bad : true ≡ false = sym valued ∙ none in cc;
    })
    (variables_known query fsd entries named valued (All-tail IsLawfulEntry entry entries lawful))

variables_text : (form : Form) (fsd : Bool) (line_of : List ℕ × VariableState → List ℕ)
    (entries : List (List ℕ × VariableState)) →
    ((entry : List ℕ × VariableState) → item_line form (variable_of fsd entry) ≡ line_of entry)
    → text_of form (map (variable_of fsd) entries) ≡ flat_map line_of entries
variables_text form fsd line_of [] same = refl
variables_text form fsd line_of (entry ∷ entries) same =
    ap (λ t. t ++ text_of form (map (variable_of fsd) entries)) (same entry) ∙
    ap (λ t. line_of entry ++ t) (variables_text form fsd line_of entries same)

-- a listing of one UPS is written so
listing_written : (kind ups : List ℕ) → length kind ≤ 64 → is_ups_name ups ≡ true →
    length (begin_line kind (ups ∷ [])) ≤ LINE_ROOM
listing_written kind ups few h = omega (
  arith,
  few,
  text_short is_name_byte false UPS_NAME_LIMIT ups h,
  line_of_four (codes "BEGIN") (codes "LIST") kind ups,
)

-- a UPS that is found by a name has the name
pub name_kept : (s : Seen) (ups : List ℕ) (known : KnownUps) → ups_named s (Some ups) ≡
    Some known → known.name ≡ ups
name_kept s ups known named = let same : Some ups ≡ Some known.name =
    (a_named_ups_is_seen s (Some ups) known named).name_is in cc same

pub prints_variables : EachIsListedOnce → UpscPrintsTheVariables
prints_variables listed = λ s client ups line known more n u e.
    let query = queries.Var ups in
    let entries = known.state.report.tree.variables in
    let fsd = known.state.fsd in
    let lawful = entries_lawful entries u.sound.names u.sound.variables in
    let read = list_var_read ups n line e in
    let same : known.name ≡ ups = name_kept (seen s) ups known u.asks.named in
    let text = (listed.variables s client line (Some ups) known read u.asks).0 in
    let few : length (map (variable_of fsd) entries) ≤ ITEM_LIMIT =
    omega (arith, u.sound.variables_few, length-map entries (variable_of fsd)) in
    let written = variables_written query (codes "VAR") ups fsd entries (λ item. refl)
    (as_it_is (omega arith) refl) (omega arith) n lawful in
    let items = variables_known query fsd entries (λ name h. h) refl lawful in
    let whole = frame_read query (map (variable_item (codes "VAR") ups fsd) entries)
    (map (variable_of fsd) entries) more (
      (as_it_is (omega arith) refl, (ups_name_written ups n, tt)),
      listing_written (codes "VAR") ups (omega arith) n,
      written,
    ) items few in
    printed_whole (requests.List query) forms.Colon ((server.reply s client line) ++ more)
    (map (variable_of fsd) entries) more
    (ap (λ t. reply (requests.List query) (t ++ more))
    (text ∙ ap (λ x. frame (codes "VAR") (x ∷ [])
    (map (variable_item (codes "VAR") x fsd) entries)) same) ∙ whole)
    ∙ ap Prints (variables_text forms.Colon fsd (variable_line fsd) entries (λ entry. refl))

-- the variables that may be set are some of them
pub prints_settings : EachIsListedOnce → UpsrwPrintsTheVariables
prints_settings listed = λ s client ups line known more n u e.
    let query = queries.Rw ups in
    let entries = filter is_rw known.state.report.tree.variables in
    let fsd = known.state.fsd in
    let lawful = All-filter is_rw IsLawfulEntry known.state.report.tree.variables
    (entries_lawful known.state.report.tree.variables u.sound.names u.sound.variables) in
    let read = list_rw_read ups n line e in
    let same : known.name ≡ ups = name_kept (seen s) ups known u.asks.named in
    let text = (listed.rw s client line (Some ups) known read u.asks).0 in
    let few : length (map (variable_of fsd) entries) ≤ ITEM_LIMIT =
    omega (
      arith,
      u.sound.variables_few,
      length-filter is_rw known.state.report.tree.variables,
      count_by-le-length is_rw known.state.report.tree.variables,
      length-map entries (variable_of fsd),
    ) in
    let written = variables_written query (codes "RW") ups fsd entries (λ item. refl)
    (as_it_is (omega arith) refl) (omega arith) n lawful in
    let items = variables_known query fsd entries (λ name h. h) refl lawful in
    let whole = frame_read query (map (variable_item (codes "RW") ups fsd) entries)
    (map (variable_of fsd) entries) more (
      (as_it_is (omega arith) refl, (ups_name_written ups n, tt)),
      listing_written (codes "RW") ups (omega arith) n,
      written,
    ) items few in
    printed_whole (requests.List query) forms.Equals ((server.reply s client line) ++ more)
    (map (variable_of fsd) entries) more
    (ap (λ t. reply (requests.List query) (t ++ more))
    (text ∙ ap (λ x. frame (codes "RW") (x ∷ []) (map (variable_item (codes "RW") x fsd) entries)) same) ∙ whole)
    ∙ ap Prints (variables_text forms.Equals fsd (setting_line fsd) entries (λ entry. refl))

-- a command, or an address, as an item
abbrev named_item : List ℕ → Item
named_item name = record { name = name; value = [] }

record IsNamed (query : Query) (name : List ℕ) : Type 0 where
  written : IsWritten name name
  short : length name ≤ 64
  named : is_item_name query name ≡ true

module _ {X : Type 0} (name_of : X → List ℕ) (query : Query) where
  names_written : (word ups : List ℕ) →
      ((item : Item) → item_words query item ≡ word ∷ ups ∷ item.name ∷ []) →
      IsWritten word word → length word ≤ 64 → is_ups_name ups ≡ true → (xs : List X) →
      All (λ x. IsNamed query (name_of x)) xs
      → AllZip IsWrittenLine (map (λ x. word ∷ ups ∷ name_of x ∷ []) xs)
      (map (item_words query) (map (λ x. named_item (name_of x)) xs))
  names_written word ups same w few h [] all = tt
  names_written word ups same w few h (x ∷ xs) all =
      let name : List ℕ = name_of x in
      let is = All-head (λ x. IsNamed query (name_of x)) x xs all in
      let line : IsWrittenLine (word ∷ ups ∷ name ∷ []) (word ∷ ups ∷ name ∷ []) = record {
        written = (w, (ups_name_written ups h, (is.written, tt)));
        fits = omega (
          arith,
          few,
          text_short is_name_byte false UPS_NAME_LIMIT ups h,
          is.short,
          line_of_three word ups name,
        );
      } in (
        subst (λ words. IsWrittenLine (word ∷ ups ∷ name ∷ []) words)
            (sym (same (named_item name))) line,
        names_written word ups same w few h xs (All-tail (λ x. IsNamed query (name_of x)) x xs all),
      )

  names_known : (xs : List X) → All (λ x. IsNamed query (name_of x)) xs →
      All (IsItem query) (map (λ x. named_item (name_of x)) xs)
  names_known [] all = All-nil (IsItem query)
  names_known (x ∷ xs) all =
      All-cons (IsItem query) (named_item (name_of x)) (map (λ x. named_item (name_of x)) xs)
      (record { name = (All-head (λ x. IsNamed query (name_of x)) x xs all).named; value = λ none. refl })
      (names_known xs (All-tail (λ x. IsNamed query (name_of x)) x xs all))

  words_text : (xs : List X) → text_of forms.Name (map (λ x. named_item (name_of x)) xs) ≡
      flat_map (λ x. with_lf (name_of x)) xs
  words_text [] = refl
  words_text (x ∷ xs) = ap (λ t. with_lf (name_of x) ++ t) (words_text xs)

pub prints_commands : EachIsListedOnce → UpscmdPrintsTheCommands
prints_commands listed = λ s client ups line known more n u e.
    let query = queries.Cmd ups in
    let commands = known.state.report.tree.commands in
    let all = All-weaker (λ name. IsTrue (is_name name)) (IsNamed query)
    (λ name h. record {
      written = name_written name h;
      short = text_short is_name_byte false NAME_LIMIT name h;
      named = h;
    }) commands u.sound.commands in
    let read = list_cmd_read ups n line e in
    let same : known.name ≡ ups = name_kept (seen s) ups known u.asks.named in
    let text = (listed.commands s client line (Some ups) known read u.asks).0 in
    let few : length (map named_item commands) ≤ ITEM_LIMIT =
    omega (arith, u.sound.commands_few, length-map commands named_item) in
    let whole = frame_read query (map (command_item ups) commands) (map named_item commands) more (
      (as_it_is (omega arith) refl, (ups_name_written ups n, tt)),
      listing_written (codes "CMD") ups (omega arith) n,
      names_written (λ name. name) query (codes "CMD") ups (λ item. refl)
          (as_it_is (omega arith) refl) (omega arith) n commands all,
    ) (names_known (λ name. name) query commands all) few in
    printed_whole (requests.List query) forms.Name ((server.reply s client line) ++ more) (map named_item commands) more
    (ap (λ t. reply (requests.List query) (t ++ more))
    (text ∙ ap (λ x. frame (codes "CMD") (x ∷ []) (map (command_item x) commands)) same) ∙ whole)
    ∙ ap Prints (words_text (λ name. name) query commands)

-- who is logged in
pub prints_clients : WhatIsCountedIsWhoIsThere → UpscPrintsWhoIsLoggedIn
prints_clients counted = λ s client ups line known more few lawful n named e.
    let query = queries.Client ups in
    let clients = logged_in known.id s in
    let all = All-weaker HasLawfulAddress (λ x. IsNamed query x.address)
    (λ x h. record {
      written = address_written x.address h;
      short = text_short is_address_byte false ADDRESS_LIMIT x.address h;
      named = h;
    }) clients (All-filter (is_logged_in_of known.id) HasLawfulAddress s.sessions lawful) in
    let read = list_client_read ups n line e in
    let same : known.name ≡ ups = name_kept (seen s) ups known named in
    let text = counted.listed s client line (Some ups) known read named in
    let items = map (λ (x : SessionState). named_item x.address) clients in
    let few : length items ≤ ITEM_LIMIT =
    omega (
      arith,
      few,
      length-map clients (λ (x : SessionState). named_item x.address),
      length-filter (is_logged_in_of known.id) s.sessions,
      count_by-le-length (is_logged_in_of known.id) s.sessions,
    ) in
    let whole = frame_read query (map (λ (x : SessionState). client_item ups x.address) clients) items more (
      (as_it_is (omega arith) refl, (ups_name_written ups n, tt)),
      listing_written (codes "CLIENT") ups (omega arith) n,
      names_written (λ (x : SessionState). x.address) query (codes "CLIENT") ups (λ item. refl)
          (as_it_is (omega arith) refl) (omega arith) n clients all,
    ) (names_known (λ (x : SessionState). x.address) query clients all) few in
    printed_whole (requests.List query) forms.Name ((server.reply s client line) ++ more) items more
    (ap (λ t. reply (requests.List query) (t ++ more))
    (text ∙ ap (λ name. frame (codes "CLIENT") (name ∷ [])
    (map (λ (x : SessionState). client_item name x.address) clients)) same) ∙ whole)
    ∙ ap Prints (words_text (λ (x : SessionState). x.address) query clients)

-- the value of a variable that is there is lawful
value_there : (known : KnownUps) (name : List ℕ) (variable : VariableState) →
    IsSoundTree known.state.report.tree → HasVariable known name variable → is_value variable.value ≡ true
value_there known name variable sound has =
    (subst (λ o. IfSome o IsSoundVariable) has
    (IfSome-lookup_from_All IsSoundVariable (is_at (byte_order name))
    known.state.report.tree.variables sound.variables)).value

pub prints_variable : WhatIsListedIsWhatIsHeld → UpscPrintsTheVariable
prints_variable held = λ s client ups name line known variable more n m u has e.
    let fsd = known.state.fsd in
    let value = shown fsd name variable in
    let lawful = shown_lawful fsd name variable (value_there known name variable u.sound has) in
    let read = get_var_read ups name n m line e in
    let same : known.name ≡ ups = name_kept (seen s) ups known u.asks.named in
    let text = held.got s client line (Some ups) name known variable read u.asks has in
    let texts : List (List ℕ) = codes "VAR" ∷ ups ∷ name ∷ quoted value ∷ [] in
    let written : IsWrittenLine texts (codes "VAR" ∷ ups ∷ name ∷ value ∷ []) = record {
      written = (
        as_it_is (omega arith) refl,
        (ups_name_written ups n, (name_written name m, (quoted_written value lawful.0, tt))),
      );
      fits = omega (
        arith,
        text_short is_name_byte false UPS_NAME_LIMIT ups n,
        text_short is_name_byte false NAME_LIMIT name m,
        lawful.1,
        quoted_is_short value,
        line_of_four (codes "VAR") ups name (quoted value),
      );
    } in
    printed_whole (requests.GetVar ups name) forms.Value ((server.reply s client line) ++ more) (one_item value) more
    (ap (λ t. reply (requests.GetVar ups name) (t ++ more))
    (text ∙ ap (λ x. line_of (codes "VAR" ∷ x ∷ name ∷ quoted value ∷ [])) same) ∙
    value_read ups name value texts more written)
    ∙ ap Prints (append-nil (with_lf value))

-- how many are logged in to a UPS
pub prints_number : WhatIsCountedIsWhoIsThere → UpscPrintsHowManyAreLoggedIn
prints_number counted = λ s client ups line known more few n named e.
    let logged = logged_in known.id s in
    let number = decimal (length logged) in
    let short = written_number (length logged)
    (omega (
      arith,
      few,
      length-filter (is_logged_in_of known.id) s.sessions,
      count_by-le-length (is_logged_in_of known.id) s.sessions,
    )) in
    let read = num_attach_read ups n line e in
    let same : known.name ≡ ups = name_kept (seen s) ups known named in
    let text = counted.attached s client line (Some ups) known read named in
    let words : List (List ℕ) = codes "NUMATTACH" ∷ ups ∷ number ∷ [] in
    let written : IsWrittenLine words words = record {
      written = (as_it_is (omega arith) refl, (ups_name_written ups n, (as_it_is short.some short.bare, tt)));
      fits = omega (
        arith,
        text_short is_name_byte false UPS_NAME_LIMIT ups n,
        short.short,
        line_of_three (codes "NUMATTACH") ups number,
      );
    } in
    printed_whole (requests.GetNumAttach ups) forms.Value ((server.reply s client line) ++ more) (one_item number) more
    (ap (λ t. reply (requests.GetNumAttach ups) (t ++ more))
    (text ∙ ap (λ x. line_of (codes "NUMATTACH" ∷ x ∷ number ∷ [])) same) ∙
    number_read ups number more short.count written)
    ∙ ap Prints (append-nil (with_lf number))

-- the UPSs
abbrev ups_of_list : Ups → Item
ups_of_list ups = record { name = ups.name; value = ups_description ups }

ups_written : (ups : Ups) → IsLawfulUps ups →
    IsWrittenLine (ups_item ups) (item_words queries.Ups (ups_of_list ups))
ups_written ups lawful =
    let text = ups_description ups in
    let d = description_lawful ups lawful.description in
    record {
      written = (as_it_is (omega arith) refl, (ups_name_written ups.name lawful.name, (quoted_written text d.0, tt)));
      fits = omega (
        arith,
        text_short is_name_byte false UPS_NAME_LIMIT ups.name lawful.name,
        d.1,
        quoted_is_short text,
        line_of_three (codes "UPS") ups.name (quoted text),
      );
    }

upses_written : (list : List Ups) → All IsLawfulUps list →
    AllZip IsWrittenLine (map ups_item list) (map (item_words queries.Ups) (map ups_of_list list))
upses_written [] each = tt
upses_written (ups ∷ list) each =
    (ups_written ups (All-head IsLawfulUps ups list each), upses_written list (All-tail IsLawfulUps ups list each))

upses_known : (list : List Ups) → All IsLawfulUps list → All (IsItem queries.Ups) (map ups_of_list list)
upses_known [] each = All-nil (IsItem queries.Ups)
upses_known (ups ∷ list) each =
    All-cons (IsItem queries.Ups) (ups_of_list ups) (map ups_of_list list)
    (record { name = (All-head IsLawfulUps ups list each).name; value = λ none. cc })
    (upses_known list (All-tail IsLawfulUps ups list each))

names_text : (list : List Ups) → text_of forms.Name (map ups_of_list list) ≡ name_lines list
names_text [] = refl
names_text (ups ∷ list) = ap (λ t. with_lf ups.name ++ t) (names_text list)

descriptions_text : (list : List Ups) → text_of forms.Colon (map ups_of_list list) ≡ description_lines list
descriptions_text [] = refl
descriptions_text (ups ∷ list) = ap (λ t. description_line ups ++ t) (descriptions_text list)

pub prints_upses : EachIsListedOnce → UpscPrintsTheUpses
prints_upses listed = λ s client line more is e.
    let list = s.list in
    let text = (listed.upses s client line (list_ups_read line e)).0 in
    let few : length (map ups_of_list list) ≤ ITEM_LIMIT = omega (arith, is.few, length-map list ups_of_list) in
    let whole = frame_read queries.Ups (map ups_item list) (map ups_of_list list) more
    ((as_it_is (omega arith) refl, tt), omega arith, upses_written list is.lawful)
    (upses_known list is.lawful) few in
    let read = ap (λ t. reply (requests.List queries.Ups) (t ++ more)) text ∙ whole in
    let bytes = (server.reply s client line) ++ more in
    record {
      names = printed_whole (requests.List queries.Ups) forms.Name bytes (map ups_of_list list) more
          read ∙ ap Prints (names_text list);
      descriptions = printed_whole (requests.List queries.Ups) forms.Colon bytes
          (map ups_of_list list) more read ∙ ap Prints (descriptions_text list);
    }
