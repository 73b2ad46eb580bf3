-- The line of a request, as the server reads it.
use Rattle.std.proofs.Common.{◌≡◌, ℕ, ◌+◌, ◌<◌, ◌≤◌, true, List, []}
use Rattle.std.proofs.Common.{◌∷◌, ◌++◌, length, Option, Some, None, Result, Ok, IfSome}
use Rattle.std.proofs.Common.{refl, sym, ap, subst, ◌∙◌, arith, length-append}
use Rattle.std.specs.Prelude.{false, codes, IsTrue}
use Rattle.std.specs.List.{list_all}
use Rattle.std.specs.Result.{result_ok}
use Rattle.std.proofs.lemmas.Bool.Decides.{nat_tests}
use Rattle.std.proofs.lemmas.Grind.{common_steps}
use Rattle.std.proofs.lemmas.List.{append_cancel_right}
use Rattle.nutwords.specs.Bytes.{is_name_byte, is_lawful}
use Rattle.nutwords.specs.Frame.{line_of}
use Rattle.nutwords.specs.Grammar.{Reads}
use Rattle.nutwords.specs.Listing.{as_it_is, IsWrittenLine, IsWritten}
use Rattle.nutwords.specs.Reading.{read_text, read_name, read_ups_name, read_value, is_name, is_ups_name, is_value}
use Rattle.nutwords.specs.Spelling.{quoted}
use Rattle.nutwords.specs.declared.faults.BadName.{BadName}
use Rattle.nutwords.specs.declared.limits.TheConstants.{NAME_LIMIT, UPS_NAME_LIMIT, VALUE_LIMIT}
use Rattle.nutwords.proofs.PublicLaws.{quoted_is_short, read_line_is_the_grammar}
use Rattle.nutusers.specs.Credentials.{any_byte}
use Rattle.nutcommand.specs.Command.{read_command, command_from}
use Rattle.nutcommand.specs.declared.command.Command.{Command}
use Rattle.nutcommand.specs.declared.command.Command.TheVariants as commands
use Rattle.nutcommand.specs.declared.err_word.ErrWord.{ErrWord}
use Rattle.nutrequest.specs.Request.{request_words}
use Rattle.nutrequest.specs.declared.request.Query.TheVariants as queries
use Rattle.nutrequest.specs.declared.request.Request.{Request}
use Rattle.nutrequest.specs.declared.request.Request.TheVariants as requests
use Rattle.nutclient.specs.declared.limits.TheConstants.{USER_LIMIT, PASSWORD_LIMIT}
use Rattle.endtoend.specs.Served.{IsLineOf, IsReadAsAsked}
use Rattle.endtoend.proofs.LineReading.{written_line}
use Rattle.endtoend.proofs.Texts.{text_itself, name_written, ups_name_written, quoted_written}
use Rattle.nutwords.proofs.BytesRead.{text_short, text_all}

-- how long a line of two to five words is
line_of_two : (a b : List ℕ) → length (line_of (a ∷ b ∷ [])) ≡ length a + length b + 2
line_of_two a b = omega (arith, length-append (a ++ 32 ∷ b) (10 ∷ []), length-append a (32 ∷ b))

pub line_of_three : (a b c : List ℕ) → length (line_of (a ∷ b ∷ c ∷ [])) ≡ length a +
    length b + length c + 3
line_of_three a b c = omega (
  arith,
  length-append (a ++ 32 ∷ (b ++ 32 ∷ c)) (10 ∷ []),
  length-append a (32 ∷ (b ++ 32 ∷ c)),
  length-append b (32 ∷ c),
)

pub line_of_four : (a b c d : List ℕ) → length (line_of (a ∷ b ∷ c ∷ d ∷ [])) ≡
    length a + length b + length c + length d + 4
line_of_four a b c d =
    omega (
      arith,
      length-append (a ++ 32 ∷ (b ++ 32 ∷ (c ++ 32 ∷ d))) (10 ∷ []),
      length-append a (32 ∷ (b ++ 32 ∷ (c ++ 32 ∷ d))),
      length-append b (32 ∷ (c ++ 32 ∷ d)),
      length-append c (32 ∷ d),
    )

line_of_five : (a b c d e : List ℕ) → length (line_of (a ∷ b ∷ c ∷ d ∷ e ∷ [])) ≡
    length a + length b + length c + length d + length e + 5
line_of_five a b c d e =
    omega (
      arith,
      length-append (a ++ 32 ∷ (b ++ 32 ∷ (c ++ 32 ∷ (d ++ 32 ∷ e))))
          (10 ∷ []),
      length-append a (32 ∷ (b ++ 32 ∷ (c ++ 32 ∷ (d ++ 32 ∷ e)))),
      length-append b (32 ∷ (c ++ 32 ∷ (d ++ 32 ∷ e))),
      length-append c (32 ∷ (d ++ 32 ∷ e)),
      length-append d (32 ∷ e),
    )

-- what is written so is read as these words
pub sent_as : (request : Request) (words : List (List ℕ)) →
    IsWrittenLine (request_words request) words → (line : List ℕ) → IsLineOf request line →
    read_command line ≡ command_from (Ok words)
sent_as request words h line e =
    let r = written_line (request_words request) words h in
    let same : r.line ≡ line = append_cancel_right r.line line (10 ∷ []) (sym r.whole ∙ sym e) in
    ap command_from ((read_line_is_the_grammar line words).1 (subst (λ l. Reads l words) same r.reads))

-- names and values are read as they are
pub ups_itself : (ups : List ℕ) → is_ups_name ups ≡ true → read_ups_name ups ≡ Ok ups
ups_itself ups h = text_itself is_name_byte false UPS_NAME_LIMIT ups h

pub name_itself : (name : List ℕ) → is_name name ≡ true → read_name name ≡ Ok name
name_itself name h = text_itself is_name_byte false NAME_LIMIT name h

value_itself : (value : List ℕ) → is_value value ≡ true → read_value value ≡ Ok value
value_itself value h = text_itself is_lawful true VALUE_LIMIT value h

-- how long they are
ups_short : (ups : List ℕ) → is_ups_name ups ≡ true → length ups ≤ UPS_NAME_LIMIT
ups_short ups h = text_short is_name_byte false UPS_NAME_LIMIT ups h

name_short : (name : List ℕ) → is_name name ≡ true → length name ≤ NAME_LIMIT
name_short name h = text_short is_name_byte false NAME_LIMIT name h

value_short : (value : List ℕ) → is_value value ≡ true → length value ≤ VALUE_LIMIT
value_short value h = text_short is_lawful true VALUE_LIMIT value h

value_written : (value : List ℕ) → is_value value ≡ true → IsWritten (quoted value) value
value_written value h = quoted_written value (text_all is_lawful true VALUE_LIMIT value h)

-- LIST of a UPS
list_written : (kind ups : List ℕ) → IsWritten kind kind → length kind ≤ 64 →
    is_ups_name ups ≡ true → IsWrittenLine (codes "LIST" ∷ kind ∷ ups ∷ [])
    (codes "LIST" ∷ kind ∷ ups ∷ [])
list_written kind ups written few h = record {
  written = (as_it_is (omega arith) refl, (written, (ups_name_written ups h, tt)));
  fits = omega (arith, few, ups_short ups h, line_of_three (codes "LIST") kind ups);
}

pub list_var_read : (ups : List ℕ) → is_ups_name ups ≡ true → IsReadAsAsked (requests.List (queries.Var ups))
list_var_read ups h line e = cc (
  sent_as (requests.List (queries.Var ups)) _
      (list_written (codes "VAR") ups (as_it_is (omega arith) refl) (omega arith) h) line e,
  ups_itself ups h,
)

pub list_rw_read : (ups : List ℕ) → is_ups_name ups ≡ true → IsReadAsAsked (requests.List (queries.Rw ups))
list_rw_read ups h line e = cc (
  sent_as (requests.List (queries.Rw ups)) _
      (list_written (codes "RW") ups (as_it_is (omega arith) refl) (omega arith) h) line e,
  ups_itself ups h,
)

pub list_cmd_read : (ups : List ℕ) → is_ups_name ups ≡ true → IsReadAsAsked (requests.List (queries.Cmd ups))
list_cmd_read ups h line e = cc (
  sent_as (requests.List (queries.Cmd ups)) _
      (list_written (codes "CMD") ups (as_it_is (omega arith) refl) (omega arith) h) line e,
  ups_itself ups h,
)

pub list_client_read : (ups : List ℕ) → is_ups_name ups ≡ true →
    IsReadAsAsked (requests.List (queries.Client ups))
list_client_read ups h line e = cc (
  sent_as (requests.List (queries.Client ups)) _
      (list_written (codes "CLIENT") ups (as_it_is (omega arith) refl) (omega arith) h) line e,
  ups_itself ups h,
)

pub list_ups_read : IsReadAsAsked (requests.List queries.Ups)
list_ups_read =
    let words : List (List ℕ) = codes "LIST" ∷ codes "UPS" ∷ [] in
    let written : IsWrittenLine words words =
    record { written = (as_it_is (omega arith) refl, (as_it_is (omega arith) refl, tt)); fits = omega arith } in
    sent_as (requests.List queries.Ups) words written

-- GET
pub num_attach_read : (ups : List ℕ) → is_ups_name ups ≡ true → IsReadAsAsked (requests.GetNumAttach ups)
num_attach_read ups h line e =
    let words : List (List ℕ) = codes "GET" ∷ codes "NUMATTACH" ∷ ups ∷ [] in
    let written : IsWrittenLine words words = record {
      written = (as_it_is (omega arith) refl, (as_it_is (omega arith) refl, (ups_name_written ups h, tt)));
      fits = omega (arith, ups_short ups h, line_of_three (codes "GET") (codes "NUMATTACH") ups);
    } in
    cc (sent_as (requests.GetNumAttach ups) words written line e, ups_itself ups h)

pub get_var_read : (ups name : List ℕ) → is_ups_name ups ≡ true → is_name name ≡ true →
    IsReadAsAsked (requests.GetVar ups name)
get_var_read ups name h k line e =
    let words : List (List ℕ) = codes "GET" ∷ codes "VAR" ∷ ups ∷ name ∷ [] in
    let written : IsWrittenLine words words = record {
      written = (
        as_it_is (omega arith) refl,
        (as_it_is (omega arith) refl, (ups_name_written ups h, (name_written name k, tt))),
      );
      fits = omega (arith, ups_short ups h, name_short name k, line_of_four (codes "GET") (codes "VAR") ups name);
    } in
    cc (sent_as (requests.GetVar ups name) words written line e, ups_itself ups h, name_itself name k)

-- orders
abbrev as_command : Command → Result (Option Command) ErrWord
as_command command = Ok (Some command)

of_three : (f : Option (List ℕ) → Option (List ℕ) → Option (List ℕ) → Command)
    (a b c : Result (List ℕ) BadName) (x y z : List ℕ) → a ≡ Ok x → b ≡ Ok y → c ≡
    Ok z → as_command (f (result_ok a) (result_ok b) (result_ok c)) ≡ as_command (f (Some x) (Some y) (Some z))
of_three f a b c x y z u v w = cc

pub set_read : (ups name value : List ℕ) → is_ups_name ups ≡ true → is_name name ≡
    true → is_value value ≡ true → IsReadAsAsked (requests.SetVar ups name value)
set_read ups name value h k v line e =
    let words : List (List ℕ) = codes "SET" ∷ codes "VAR" ∷ ups ∷ name ∷ value ∷ [] in
    let written : IsWrittenLine (request_words (requests.SetVar ups name value)) words = record {
      written = (
        as_it_is (omega arith) refl,
        (as_it_is (omega arith) refl, (ups_name_written ups h, (name_written name k, (value_written value v, tt)))),
      );
      fits = omega (
        arith,
        ups_short ups h,
        name_short name k,
        value_short value v,
        quoted_is_short value,
        line_of_five (codes "SET") (codes "VAR") ups name (quoted value),
      );
    } in
    sent_as (requests.SetVar ups name value) words written line e ∙
    of_three (λ u n v. commands.SetVar u n v) (read_ups_name ups) (read_name name)
    (read_value value) ups name value (ups_itself ups h) (name_itself name k) (value_itself value v)

pub command_read : (ups name : List ℕ) (value : Option (List ℕ)) → is_ups_name ups ≡
    true → is_name name ≡ true → IfSome value (λ v. IsTrue (is_value v)) →
    IsReadAsAsked (requests.Instcmd ups name value)
command_read ups name None h k v line e =
    let words : List (List ℕ) = codes "INSTCMD" ∷ ups ∷ name ∷ [] in
    let written : IsWrittenLine words words = record {
      written = (as_it_is (omega arith) refl, (ups_name_written ups h, (name_written name k, tt)));
      fits = omega (arith, ups_short ups h, name_short name k, line_of_three (codes "INSTCMD") ups name);
    } in
    cc (sent_as (requests.Instcmd ups name None) words written line e, ups_itself ups h, name_itself name k)
command_read ups name (Some value) h k v line e =
    let words : List (List ℕ) = codes "INSTCMD" ∷ ups ∷ name ∷ value ∷ [] in
    let written : IsWrittenLine (request_words (requests.Instcmd ups name (Some value))) words = record {
      written = (
        as_it_is (omega arith) refl,
        (ups_name_written ups h, (name_written name k, (value_written value v, tt))),
      );
      fits = omega (
        arith,
        ups_short ups h,
        name_short name k,
        value_short value v,
        quoted_is_short value,
        line_of_four (codes "INSTCMD") ups name (quoted value),
      );
    } in
    sent_as (requests.Instcmd ups name (Some value)) words written line e ∙
    of_three (λ u n v. commands.InstCmd u n (Some v)) (read_ups_name ups) (read_name name)
    (read_value value) ups name value (ups_itself ups h) (name_itself name k) (value_itself value v)

-- what is sent before them
pub record IsWord (most : ℕ) (word : List ℕ) : Type 0 where
  pub some : 0 < length word
  pub short : length word ≤ most
  pub lawful : list_all is_lawful word ≡ true

any_all : (word : List ℕ) → list_all any_byte word ≡ true
any_all [] = refl
any_all (b ∷ word) = any_all word

word_itself : (most : ℕ) (word : List ℕ) → IsWord most word → read_text any_byte false most word ≡ Ok word
word_itself most word h = let all = any_all word in grind (arith, nat_tests, common_steps, all)

pub username_read : (user : List ℕ) → IsWord USER_LIMIT user → IsReadAsAsked (requests.Username user)
username_read user h line e =
    let words : List (List ℕ) = codes "USERNAME" ∷ user ∷ [] in
    let written : IsWrittenLine (request_words (requests.Username user)) words = record {
      written = (as_it_is (omega arith) refl, (quoted_written user h.lawful, tt));
      fits = omega (arith, h.short, quoted_is_short user, line_of_two (codes "USERNAME") (quoted user));
    } in
    cc (sent_as (requests.Username user) words written line e, word_itself USER_LIMIT user h)

pub password_read : (password : List ℕ) → IsWord PASSWORD_LIMIT password →
    IsReadAsAsked (requests.Password password)
password_read password h line e =
    let words : List (List ℕ) = codes "PASSWORD" ∷ password ∷ [] in
    let written : IsWrittenLine (request_words (requests.Password password)) words = record {
      written = (as_it_is (omega arith) refl, (quoted_written password h.lawful, tt));
      fits = omega (arith, h.short, quoted_is_short password, line_of_two (codes "PASSWORD") (quoted password));
    } in
    cc (sent_as (requests.Password password) words written line e, word_itself PASSWORD_LIMIT password h)

pub set_tracking_read : IsReadAsAsked requests.SetTracking
set_tracking_read =
    let words : List (List ℕ) = codes "SET" ∷ codes "TRACKING" ∷ codes "ON" ∷ [] in
    let written : IsWrittenLine words words =
    record {
      written = (
        as_it_is (omega arith) refl,
        (as_it_is (omega arith) refl, (as_it_is (omega arith) refl, tt)),
      );
      fits = omega arith;
    } in
    sent_as requests.SetTracking words written
