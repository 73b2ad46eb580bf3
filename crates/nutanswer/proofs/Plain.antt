-- Words of lawful bytes: those of answers and of orders.
use Rattle.std.proofs.Common.{ℕ, ◌+◌, ◌*◌, ◌≤◌, Bool, List, [], ◌∷◌, ◌++◌}
use Rattle.std.proofs.Common.{Option, Some, None, refl, arith}
use Rattle.std.specs.Prelude.{◌==◌, not, IsTrue, IfSome, codes}
use Rattle.std.specs.Fmt.{decimal}
use Rattle.std.specs.List.{AllByRecursion, list_all}
use Rattle.std.proofs.lemmas.Bool.{cond_both}
use Rattle.nutwords.specs.Bytes.{is_lawful}
use Rattle.nutwords.specs.Natural.{is_empty}
use Rattle.nutwords.specs.Reading.{is_name, is_value}
use Rattle.nutwords.specs.Spelling.{quoted}
use Rattle.nutwords.specs.declared.limits.TheConstants.{NAME_LIMIT, VALUE_LIMIT}
use Rattle.nutdriver.specs.Variable.{VariableState}
use Rattle.nutdriver.specs.declared.limits.TheConstants.{NUMBER_LIMIT}
use Rattle.nutlisting.specs.Lawful.{IsLawfulText}
use Rattle.nutlisting.specs.Lines.{IsWholeLine}
use Rattle.nutlisting.specs.Types.{word_if, else_number, type_words}
use Rattle.nutlisting.specs.Lines.{progress_words}
use Rattle.nutlisting.proofs.PublicLaws.{ids_are_lawful, texts_are_lawful, lawful_words_are_a_line}
use Rattle.nuttracking.specs.Id.{id_text}
use Rattle.nuttracking.specs.Sound.{IsLawfulProgress}
use Rattle.nuttracking.specs.declared.id.TheConstants.{ID_LENGTH}
use Rattle.nuttracking.specs.declared.order.Progress.{Progress}
use Rattle.nuttracking.specs.declared.order.Progress.TheVariants.{Pending, Done}
use Rattle.nutanswer.specs.Laws.{OrderLinesAreWhole}
use Rattle.nutanswer.specs.Orders.{order_line}

abbrev pub IsPlain : List ℕ → Type 0
IsPlain text = IsTrue (list_all is_lawful text)

abbrev pub ArePlain : List (List ℕ) → Type 0
ArePlain words = AllByRecursion IsPlain words

-- what is written in quotes
pub quoted_plain : (most : ℕ) (text : List ℕ) → IsLawfulText most text → IsPlain (quoted text)
quoted_plain most text h = (texts_are_lawful.quoted most text h).lawful

-- what the values of a variable are
pub type_plain : (v : VariableState) → v.aux ≤ NUMBER_LIMIT → ArePlain (type_words v)
type_plain v few =
    let number : IsPlain (codes "STRING:" ++ decimal v.aux) = texts_are_lawful.decimals v.aux (omega (arith, few)) in
    by_flags v.flags.rw (not (is_empty v.enum_values)) (not (is_empty v.ranges)) v.flags.string number
  where
    by_flags : (rw enum range string : Bool) → IsPlain (codes "STRING:" ++ decimal v.aux)
        → ArePlain (word_if rw (codes "RW") ++
        else_number (word_if enum (codes "ENUM") ++
        (word_if range (codes "RANGE") ++ word_if string (codes "STRING:" ++ decimal v.aux))))
    by_flags rw enum range string number = grind (arith, number)

-- how far an order has come
pub progress_plain : (progress : Progress) → IsLawfulProgress progress → ArePlain (progress_words progress)
progress_plain Pending h = (refl, tt)
progress_plain (Done number) h =
    cond_both (number == 0) (codes "SUCCESS" ∷ []) (codes "FAILED" ∷ decimal number ∷ [])
    ArePlain (λ e. (refl, tt)) (λ e. (refl, (texts_are_lawful.decimals number (omega (arith, h)), tt)))

-- the words of an id after an order
tracking : IsLawfulText 8 (codes "TRACKING")
tracking = record { short = omega arith; lawful = refl }

id_lawful : (id : ℕ) → IsLawfulText ID_LENGTH (id_text id)
id_lawful id = record { short = omega (arith, ids_are_lawful.long id); lawful = ids_are_lawful.lawful id }

-- an order to a driver, by a verb of at most seven bytes, is one line
order_whole : (verb name : List ℕ) (value : Option (List ℕ)) (id : Option ℕ) →
    IsLawfulText 7 verb → IsTrue (is_name name) →
    IfSome value (λ text. IsTrue (is_value text)) → IsWholeLine (order_line verb name value id)
order_whole verb name None None v n h =
    lawful_words_are_a_line.whole (7 ∷ NAME_LIMIT ∷ []) (verb ∷ name ∷ [])
    (v, (texts_are_lawful.names name n, tt)) (omega arith)
order_whole verb name (Some value) None v n h =
    lawful_words_are_a_line.whole (7 ∷ NAME_LIMIT ∷ (2 * VALUE_LIMIT + 2) ∷ [])
    (verb ∷ name ∷ quoted value ∷ []) (
      v,
      (
        texts_are_lawful.names name n,
        (texts_are_lawful.quoted VALUE_LIMIT value (texts_are_lawful.values value h), tt),
      ),
    ) (omega arith)
order_whole verb name None (Some id) v n h =
    lawful_words_are_a_line.whole (7 ∷ NAME_LIMIT ∷ 8 ∷ ID_LENGTH ∷ [])
    (verb ∷ name ∷ codes "TRACKING" ∷ id_text id ∷ [])
    (v, (texts_are_lawful.names name n, (tracking, (id_lawful id, tt)))) (omega arith)
order_whole verb name (Some value) (Some id) v n h =
    lawful_words_are_a_line.whole (7 ∷ NAME_LIMIT ∷ (2 * VALUE_LIMIT + 2) ∷ 8 ∷
    ID_LENGTH ∷ []) (verb ∷ name ∷ quoted value ∷ codes "TRACKING" ∷ id_text id ∷ []) (
      v,
      (
        texts_are_lawful.names name n,
        (texts_are_lawful.quoted VALUE_LIMIT value (texts_are_lawful.values value h), (tracking, (id_lawful id, tt))),
      ),
    ) (omega arith)

pub order_lines_are_whole : OrderLinesAreWhole
order_lines_are_whole = record {
  set = λ name value id n v. order_whole (codes "SET") name (Some value) id
      (record { short = omega arith; lawful = refl }) n v;
  command = λ name value id n v. order_whole (codes "INSTCMD") name value id
      (record { short = omega arith; lawful = refl }) n v;
}
