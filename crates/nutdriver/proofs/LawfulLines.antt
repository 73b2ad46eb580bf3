-- What is read of a line is lawful.
use Rattle.std.proofs.Common.{◌≡◌, ℕ, Bool, true, false, List, [], ◌∷◌, Option, Some}
use Rattle.std.proofs.Common.{None, length, refl, ap, ◌∙◌, arith, nat_le}
use Rattle.std.specs.Prelude.{◌≤◌, ◌≤ℤ◌, ◌==◌, ◌&&◌, ⊤, ℤ, neg_ℤ, pos}
use Rattle.std.specs.Prelude.{not, nat_lt, int_le, Result, Ok, Err, codes, is_ok, IfOk, IfSome}
use Rattle.std.specs.Prelude.{IsTrue, if◌then◌else◌}
use Rattle.std.specs.List.{list_all}
use Rattle.std.specs.Str.Parse.{digits_value}
use Rattle.std.proofs.lemmas.Bool.Decides.{nat_tests}
use Rattle.std.proofs.lemmas.Grind.{common_steps}
use Rattle.std.proofs.lemmas.Int.{ints}
use Rattle.nuttracking.specs.Id.{read_id}
use Rattle.nutwords.specs.Bytes.{is_lawful, is_name_byte}
use Rattle.nutwords.specs.Reading.{read_text, read_name, read_value, is_name, is_value}
use Rattle.nutwords.specs.Natural.{is_natural, up_to, read_natural}
use Rattle.nutwords.specs.Scan.{read_line}
use Rattle.nutwords.specs.declared.limits.TheConstants.{NAME_LIMIT, VALUE_LIMIT}
use Rattle.nutwords.specs.declared.faults.BadLine.{BadLine}
use Rattle.nutwords.specs.declared.faults.BadName.{BadName}
use Rattle.nutwords.specs.declared.faults.BadName.TheVariants.{Empty, TooLong, AnotherByte}
use Rattle.nutdriver.specs.declared.limits.TheConstants.{NUMBER_LIMIT}
use Rattle.nutdriver.specs.declared.fault.DriverFault.{DriverFault}
use Rattle.nutdriver.specs.declared.line.DriverLine.{DriverLine}
use Rattle.nutdriver.specs.declared.line.DriverLine.TheVariants as lines
use Rattle.nutdriver.specs.Arguments.{read_number, below_zero, not_below_zero}
use Rattle.nutdriver.specs.Flags.{flags_of}
use Rattle.nutwords.specs.Spelling.{is_word}
use Rattle.nutdriver.specs.Arguments.{beside, lawful_name, lawful_value, lawful_id, lawful_number}
use Rattle.nutdriver.specs.Arguments.{lawful_range, name_alone, name_and_value, name_and_range}
use Rattle.nutdriver.specs.Arguments.{name_and_aux, name_and_flags, id_and_number}
use Rattle.nutdriver.specs.DriverLine.{line_of, alone, driver_line_of, driver_line_from, read_driver_line}
use Rattle.nutdriver.specs.Sound.{IsSoundRange, IsLawfulLine}

-- ---- names and values
three_cases : (a b c : Bool) (bytes : List ℕ) →
    IfOk (if a then Err Empty else if b then Err TooLong else if c then Ok bytes else Err
    AnotherByte) (λ text. text ≡ bytes)
three_cases true b c bytes = tt
three_cases false true c bytes = tt
three_cases false false true bytes = refl
three_cases false false false bytes = tt

text_same : (allowed : ℕ → Bool) (may_be_empty : Bool) (most : ℕ) (bytes : List ℕ) →
    IfOk (read_text allowed may_be_empty most bytes) (λ text. text ≡ bytes)
text_same allowed may_be_empty most bytes =
    three_cases ((length bytes == 0) && not may_be_empty) (nat_lt most (length bytes)) (list_all allowed bytes) bytes

abbrev IsName : List ℕ → Type 0
IsName name = IsTrue (is_name name)

abbrev IsValue : List ℕ → Type 0
IsValue value = IsTrue (is_value value)

name_from : (word : List ℕ) (r : Result (List ℕ) BadName) → read_name word ≡ r →
    IfOk r (λ text. text ≡ word) → IfOk (lawful_name r) IsName
name_from word (Err bad) is same = tt
name_from word (Ok name) is same = ap is_ok (ap read_name same ∙ is)

name_ok : (word : List ℕ) → IfOk (lawful_name (read_name word)) IsName
name_ok word = name_from word (read_name word) refl (text_same is_name_byte false NAME_LIMIT word)

value_from : (word : List ℕ) (r : Result (List ℕ) BadName) → read_value word ≡ r →
    IfOk r (λ text. text ≡ word) → IfOk (lawful_value r) IsValue
value_from word (Err bad) is same = tt
value_from word (Ok value) is same = ap is_ok (ap read_value same ∙ is)

value_ok : (word : List ℕ) → IfOk (lawful_value (read_value word)) IsValue
value_ok word = value_from word (read_value word) refl (text_same is_lawful true VALUE_LIMIT word)

-- ---- numbers
up_to_cases : (small : Bool) (n : ℕ) → nat_le n NUMBER_LIMIT ≡ small →
    IfSome (if small then Some n else None) (λ n. n ≤ NUMBER_LIMIT)
up_to_cases false n is = tt
up_to_cases true n is = grind (arith, nat_tests, common_steps)

natural_cases : (natural : Bool) (n : ℕ) →
    IfSome (if natural then up_to NUMBER_LIMIT n else None) (λ n. n ≤ NUMBER_LIMIT)
natural_cases false n = tt
natural_cases true n = up_to_cases (nat_le n NUMBER_LIMIT) n refl

pub natural_ok : (digits : List ℕ) → IfSome (read_natural NUMBER_LIMIT digits) (λ n. n ≤ NUMBER_LIMIT)
natural_ok digits = natural_cases (is_natural digits) (digits_value 10 digits)

record IsNumber (z : ℤ) : Type 0 where
  low : neg_ℤ (pos NUMBER_LIMIT) ≤ℤ z
  high : z ≤ℤ pos NUMBER_LIMIT

below_cases : (zero : Bool) (n : ℕ) → n ≤ NUMBER_LIMIT →
    IfSome (if zero then None else Some (neg_ℤ (pos n))) IsNumber
below_cases true n small = tt
below_cases false n small = record { low = omega (arith, ints, small); high = omega (arith, ints, small) }

below_ok : (natural : Option ℕ) → IfSome natural (λ n. n ≤ NUMBER_LIMIT) → IfSome (below_zero natural) IsNumber
below_ok None small = tt
below_ok (Some n) small = below_cases (n == 0) n small

not_below_ok : (natural : Option ℕ) → IfSome natural (λ n. n ≤ NUMBER_LIMIT) →
    IfSome (not_below_zero natural) IsNumber
not_below_ok None small = tt
not_below_ok (Some n) small = record { low = omega (arith, ints, small); high = omega (arith, ints, small) }

either : (b : Bool) (x y : Option ℤ) → IfSome x IsNumber → IfSome y IsNumber →
    IfSome (if b then x else y) IsNumber
either true x y h k = h
either false x y h k = k

number_ok : (word : List ℕ) → IfSome (read_number word) IsNumber
number_ok [] = tt
number_ok (b ∷ bs) = either (b == 45) (below_zero (read_natural NUMBER_LIMIT bs))
    (not_below_zero (read_natural NUMBER_LIMIT (b ∷ bs)))
    (below_ok (read_natural NUMBER_LIMIT bs) (natural_ok bs))
    (not_below_ok (read_natural NUMBER_LIMIT (b ∷ bs)) (natural_ok (b ∷ bs)))

aux_ok : (natural : Option ℕ) → IfSome natural (λ n. n ≤ NUMBER_LIMIT) →
    IfOk (lawful_number natural) (λ n. n ≤ NUMBER_LIMIT)
aux_ok None small = tt
aux_ok (Some n) small = small

range_cases : (rises : Bool) (least greatest : ℤ) → int_le least greatest ≡ rises →
    IsNumber least → IsNumber greatest →
    IfOk (if rises then Ok (record { least = least; greatest = greatest }) else Err DriverFault.BadNumber) IsSoundRange
range_cases false least greatest is low high = tt
range_cases true least greatest is low high =
    record { least = low.low; rises = grind (arith, ints); greatest = high.high }

range_ok : (least greatest : Option ℤ) → IfSome least IsNumber → IfSome greatest IsNumber →
    IfOk (lawful_range least greatest) IsSoundRange
range_ok None greatest low high = tt
range_ok (Some least) None low high = tt
range_ok (Some least) (Some greatest) low high = range_cases (int_le least greatest) least greatest refl low high

-- ---- what stands after the first word
beside_ok : {A X : Type 0} (P : A → Type 0) (Q : X → Type 0) (first : Result A DriverFault)
    (x : Result X DriverFault) → IfOk first P → IfOk x Q → IfOk (beside first x) (λ a. P a.0 × Q a.1)
beside_ok P Q (Err fault) x h k = tt
beside_ok P Q (Ok first) (Err fault) h k = tt
beside_ok P Q (Ok first) (Ok x) h k = (h, k)

name_alone_ok : (words : List (List ℕ)) → IfOk (name_alone words) IsName
name_alone_ok [] = tt
name_alone_ok (name ∷ []) = name_ok name
name_alone_ok (name ∷ other ∷ words) = tt

name_and_value_ok : (words : List (List ℕ)) → IfOk (name_and_value words) (λ a. IsName a.0 × IsValue a.1)
name_and_value_ok [] = tt
name_and_value_ok (name ∷ []) = tt
name_and_value_ok (name ∷ value ∷ []) =
    beside_ok IsName IsValue (lawful_name (read_name name)) (lawful_value (read_value value))
    (name_ok name) (value_ok value)
name_and_value_ok (name ∷ value ∷ other ∷ words) = tt

name_and_range_ok : (words : List (List ℕ)) → IfOk (name_and_range words) (λ a. IsName a.0 × IsSoundRange a.1)
name_and_range_ok [] = tt
name_and_range_ok (name ∷ []) = tt
name_and_range_ok (name ∷ least ∷ []) = tt
name_and_range_ok (name ∷ least ∷ greatest ∷ []) =
    beside_ok IsName (λ range. IsSoundRange range) (lawful_name (read_name name))
    (lawful_range (read_number least) (read_number greatest)) (name_ok name)
    (range_ok (read_number least) (read_number greatest) (number_ok least) (number_ok greatest))
name_and_range_ok (name ∷ least ∷ greatest ∷ other ∷ words) = tt

name_and_aux_ok : (words : List (List ℕ)) → IfOk (name_and_aux words) (λ a. IsName a.0 × (a.1 ≤ NUMBER_LIMIT))
name_and_aux_ok [] = tt
name_and_aux_ok (name ∷ []) = tt
name_and_aux_ok (name ∷ aux ∷ []) =
    beside_ok IsName (λ n. n ≤ NUMBER_LIMIT) (lawful_name (read_name name))
    (lawful_number (read_natural NUMBER_LIMIT aux)) (name_ok name)
    (aux_ok (read_natural NUMBER_LIMIT aux) (natural_ok aux))
name_and_aux_ok (name ∷ aux ∷ other ∷ words) = tt

any_ok : {X : Type 0} (r : Result X DriverFault) → IfOk r (λ x. ⊤)
any_ok (Ok x) = tt
any_ok (Err fault) = tt

name_and_flags_ok : (words : List (List ℕ)) → IfOk (name_and_flags words) (λ a. IsName a.0 × ⊤)
name_and_flags_ok [] = tt
name_and_flags_ok (name ∷ words) =
    beside_ok IsName (λ flags. ⊤) (lawful_name (read_name name)) (flags_of words) (name_ok name)
    (any_ok (flags_of words))

id_and_number_ok : (words : List (List ℕ)) → IfOk (id_and_number words) (λ a. ⊤ × (a.1 ≤ NUMBER_LIMIT))
id_and_number_ok [] = tt
id_and_number_ok (id ∷ []) = tt
id_and_number_ok (id ∷ number ∷ []) =
    beside_ok (λ id. ⊤) (λ n. n ≤ NUMBER_LIMIT) (lawful_id (read_id id))
    (lawful_number (read_natural NUMBER_LIMIT number)) (any_ok (lawful_id (read_id id)))
    (aux_ok (read_natural NUMBER_LIMIT number) (natural_ok number))
id_and_number_ok (id ∷ number ∷ other ∷ words) = tt

-- ---- the line
abbrev Lawful : Result DriverLine DriverFault → Type 0
Lawful line = IfOk line IsLawfulLine

pick : (b : Bool) (x y : Result DriverLine DriverFault) → Lawful x → Lawful y → Lawful (if b then x else y)
pick true x y h k = h
pick false x y h k = k

line_ok : {X : Type 0} (P : X → Type 0) (line : X → DriverLine) (r : Result X DriverFault) →
    ((x : X) → P x → IsLawfulLine (line x)) → IfOk r P → Lawful (line_of line r)
line_ok P line (Ok x) f h = f x h
line_ok P line (Err fault) f h = tt

alone_ok : (line : DriverLine) (words : List (List ℕ)) → IsLawfulLine line → Lawful (alone line words)
alone_ok line [] h = h
alone_ok line (word ∷ words) h = tt

lawful_of : (words : List (List ℕ)) → Lawful (driver_line_of words)
lawful_of [] = tt
lawful_of (first ∷ words) =
    pick (is_word first (codes "SETINFO")) _ _
    (line_ok _ (λ a. lines.SetInfo a.0 a.1) (name_and_value words) (λ a h. h) (name_and_value_ok words))
    (pick (is_word first (codes "DELINFO")) _ _
    (line_ok _ (λ name. lines.DelInfo name) (name_alone words) (λ a h. h) (name_alone_ok words))
    (pick (is_word first (codes "ADDENUM")) _ _
    (line_ok _ (λ a. lines.AddEnum a.0 a.1) (name_and_value words) (λ a h. h) (name_and_value_ok words))
    (pick (is_word first (codes "DELENUM")) _ _
    (line_ok _ (λ a. lines.DelEnum a.0 a.1) (name_and_value words) (λ a h. h) (name_and_value_ok words))
    (pick (is_word first (codes "ADDRANGE")) _ _
    (line_ok _ (λ a. lines.AddRange a.0 a.1) (name_and_range words) (λ a h. h) (name_and_range_ok words))
    (pick (is_word first (codes "DELRANGE")) _ _
    (line_ok _ (λ a. lines.DelRange a.0 a.1) (name_and_range words) (λ a h. h) (name_and_range_ok words))
    (pick (is_word first (codes "SETAUX")) _ _
    (line_ok _ (λ a. lines.SetAux a.0 a.1) (name_and_aux words) (λ a h. h) (name_and_aux_ok words))
    (pick (is_word first (codes "SETFLAGS")) _ _
    (line_ok _ (λ a. lines.SetFlags a.0 a.1) (name_and_flags words) (λ a h. h.0) (name_and_flags_ok words))
    (pick (is_word first (codes "ADDCMD")) _ _
    (line_ok _ (λ name. lines.AddCmd name) (name_alone words) (λ a h. h) (name_alone_ok words))
    (pick (is_word first (codes "DELCMD")) _ _
    (line_ok _ (λ name. lines.DelCmd name) (name_alone words) (λ a h. h) (name_alone_ok words))
    (pick (is_word first (codes "DUMPDONE")) _ _ (alone_ok lines.DumpDone words tt)
    (pick (is_word first (codes "DATAOK")) _ _ (alone_ok lines.DataOk words tt)
    (pick (is_word first (codes "DATASTALE")) _ _ (alone_ok lines.DataStale words tt)
    (pick (is_word first (codes "PONG")) _ _ (alone_ok lines.Pong words tt)
    (pick (is_word first (codes "TRACKING")) _ _
    (line_ok _ (λ a. lines.Tracking a.0 a.1) (id_and_number words) (λ a h. h.1)
    (id_and_number_ok words)) tt))))))))))))))

lawful_from : (r : Result (List (List ℕ)) BadLine) → Lawful (driver_line_from r)
lawful_from (Err bad) = tt
lawful_from (Ok words) = lawful_of words

pub read_lawful : (text : List ℕ) → Lawful (read_driver_line text)
read_lawful text = lawful_from (read_line text)
