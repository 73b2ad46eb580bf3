-- Entries in the order R double_rotation a place: what look-ups and edits do on either side of it.
use Rattle.std.proofs.Common.{◌≡◌, Bool, true, false, cond, List, [], ◌∷◌, ◌++◌}
use Rattle.std.proofs.Common.{Some, None, refl, ap, ◌∙◌}
use Rattle.std.specs.declared.cmp.Ordering.{Ordering}
use Rattle.std.specs.declared.cmp.Ordering.TheVariants.{Less, Equal, Greater}
use Rattle.std.specs.Ordering.{match_ordering}
use Rattle.std.specs.Cmp.{IsTotalOrder}
use Rattle.std.specs.List.{AllByRecursion}
use Rattle.std.specs.List.Sorted.{IsStrictlySortedBy}
use Rattle.std.specs.Map.{keys_of, lookup, remove_entry}
use Rattle.std.specs.BTreeMap.{insert_entry, is_at}
use Rattle.nutmap.specs.Entries.{HasRisingKeys}

-- what holds of each key
abbrev pub AllKeys : {K V : Type 0} → (K → Type 0) → List (K × V) → Type 0
AllKeys P es = AllByRecursion P (keys_of es)

pub all_keys_map : {K V : Type 0} (P Q : K → Type 0) → ((k : K) → P k → Q k) →
    (es : List (K × V)) → AllKeys P es → AllKeys Q es
all_keys_map P Q f [] a = tt
all_keys_map P Q f (e ∷ es) a = (f e.0 a.0, all_keys_map P Q f es a.1)

all_keys_left : {K V : Type 0} (P : K → Type 0) (l m : List (K × V)) → AllKeys P (l ++ m) → AllKeys P l
all_keys_left P [] m a = tt
all_keys_left P (e ∷ l) m a = (a.0, all_keys_left P l m a.1)

all_keys_right : {K V : Type 0} (P : K → Type 0) (l m : List (K × V)) → AllKeys P (l ++ m) → AllKeys P m
all_keys_right P [] m a = a
all_keys_right P (e ∷ l) m a = all_keys_right P l m a.1

pub none_rise : {K : Type 0} (R : K → K → Ordering) → IsStrictlySortedBy R []
unfolding IsStrictlySortedBy
none_rise R = tt

module _ {K V : Type 0} (R : K → K → Ordering) where
  -- q is above each key, or below each
  abbrev pub IsPast : K → List (K × V) → Type 0
  IsPast q es = AllKeys (λ k. R q k ≡ Greater) es

  abbrev pub IsBefore : K → List (K × V) → Type 0
  IsBefore q es = AllKeys (λ k. R q k ≡ Less) es

  abbrev pub Rises : List (K × V) → Type 0
  Rises es = IsStrictlySortedBy R (keys_of es)

  pub lookup-past : (q : K) (l m : List (K × V)) → IsPast q l →
      lookup (is_at (R q)) (l ++ m) ≡ lookup (is_at (R q)) m
  lookup-past q [] m a = refl
  lookup-past q (e ∷ l) m a = rw a.0 (lookup-past q l m a.1)

  pub insert_entry-past : (q : K) (v : V) (l m : List (K × V)) → IsPast q l →
      insert_entry R (l ++ m) q v ≡ l ++ insert_entry R m q v
  insert_entry-past q v [] m a = refl
  insert_entry-past q v (e ∷ l) m a = rw a.0 (ap (λ es. e ∷ es) (insert_entry-past q v l m a.1))

  pub remove_entry-past : (q : K) (l m : List (K × V)) → IsPast q l →
      remove_entry (is_at (R q)) (l ++ m) ≡ l ++ remove_entry (is_at (R q)) m
  remove_entry-past q [] m a = refl
  remove_entry-past q (e ∷ l) m a = rw a.0 (ap (λ es. e ∷ es) (remove_entry-past q l m a.1))

  pub lookup-before : (q : K) (m : List (K × V)) → IsBefore q m → lookup (is_at (R q)) m ≡ None
  lookup-before q [] a = refl
  lookup-before q (e ∷ m) a = rw a.0 (lookup-before q m a.1)

  pub remove_entry-before : (q : K) (m : List (K × V)) → IsBefore q m → remove_entry (is_at (R q)) m ≡ m
  remove_entry-before q [] a = refl
  remove_entry-before q (e ∷ m) a = rw a.0 (ap (λ es. e ∷ es) (remove_entry-before q m a.1))

  -- what q is below plays no part
  pub lookup-front : (q : K) (l m : List (K × V)) → IsBefore q m →
      lookup (is_at (R q)) (l ++ m) ≡ lookup (is_at (R q)) l
  lookup-front q [] m a = lookup-before q m a
  lookup-front q (e ∷ l) m a = ap (λ x. cond (is_at (R q) e.0) (Some e.1) x) (lookup-front q l m a)

  insert_cases : (c : Ordering) (a b x m : List (K × V)) (e : K × V) (y : List (K × V)) → y ≡
      x ++ m → match_ordering c (a ++ m) (b ++ m) (e ∷ y) ≡ match_ordering c a b (e ∷ x) ++ m
  insert_cases Less a b x m e y h = refl
  insert_cases Equal a b x m e y h = refl
  insert_cases Greater a b x m e y h = ap (λ es. e ∷ es) h

  pub insert_entry-front : (q : K) (v : V) (l : List (K × V)) (e : K × V) (m : List (K × V)) →
      R q e.0 ≡ Less → insert_entry R (l ++ e ∷ m) q v ≡ insert_entry R l q v ++ e ∷ m
  insert_entry-front q v [] e m h = rw h refl
  insert_entry-front q v (f ∷ l) e m h =
      insert_cases (R q f.0) ((q, v) ∷ f ∷ l) ((f.0, v) ∷ l) (insert_entry R l q v) (e ∷ m)
      f _ (insert_entry-front q v l e m h)

  remove_cases : (c : Bool) (l x m : List (K × V)) (e : K × V) (y : List (K × V)) → y ≡ x ++
      m → cond c (l ++ m) (e ∷ y) ≡ cond c l (e ∷ x) ++ m
  remove_cases true l x m e y h = refl
  remove_cases false l x m e y h = ap (λ es. e ∷ es) h

  pub remove_entry-front : (q : K) (l m : List (K × V)) → IsBefore q m →
      remove_entry (is_at (R q)) (l ++ m) ≡ remove_entry (is_at (R q)) l ++ m
  remove_entry-front q [] m a = remove_entry-before q m a
  remove_entry-front q (f ∷ l) m a =
      remove_cases (is_at (R q) f.0) l (remove_entry (is_at (R q)) l) m f _ (remove_entry-front q l m a)

  -- ---- rising keys
  pub rising_all : (l : List (K × V)) (e : K × V) (r : List (K × V)) → Rises (l ++ e ∷ r) →
      AllKeys (λ k. R k e.0 ≡ Less) l × AllKeys (λ k. R e.0 k ≡ Less) r
  unfolding IsStrictlySortedBy
  rising_all [] e r s = (tt, s.0)
  rising_all (f ∷ l) e r s =
      let rest : AllKeys (λ k. R k e.0 ≡ Less) l × AllKeys (λ k. R e.0 k ≡ Less) r = rising_all l e r s.1 in
      let here : AllKeys (λ k. R f.0 k ≡ Less) (e ∷ r) = all_keys_right (λ k. R f.0 k ≡ Less) l (e ∷ r) s.0 in
      ((here.0, rest.0), rest.1)

  pub rising_left : (l m : List (K × V)) → Rises (l ++ m) → Rises l
  unfolding IsStrictlySortedBy
  rising_left [] m s = tt
  rising_left (f ∷ l) m s = (all_keys_left (λ k. R f.0 k ≡ Less) l m s.0, rising_left l m s.1)

  pub rising_right : (l m : List (K × V)) → Rises (l ++ m) → Rises m
  unfolding IsStrictlySortedBy
  rising_right [] m s = s
  rising_right (f ∷ l) m s = rising_right l m s.1

  pub rising_tail : (e : K × V) (m : List (K × V)) → Rises (e ∷ m) → Rises m
  unfolding IsStrictlySortedBy
  rising_tail e m s = s.1

  keys_of-other_value : (l : List (K × V)) (k : K) (w v : V) (r : List (K × V)) →
      keys_of (l ++ (k, w) ∷ r) ≡ keys_of (l ++ (k, v) ∷ r)
  keys_of-other_value [] k w v r = refl
  keys_of-other_value (e ∷ l) k w v r = ap (λ (ks : List K). e.0 ∷ ks) (keys_of-other_value l k w v r)

  pub rising_one : (e : K × V) → Rises (e ∷ [])
  unfolding IsStrictlySortedBy
  rising_one e = (tt, tt)

  pub rising-remove_entry : (test : K → Bool) (es : List (K × V)) → Rises es → Rises (remove_entry test es)
  unfolding IsStrictlySortedBy
  rising-remove_entry test [] s = tt
  rising-remove_entry test (e ∷ es) s = elim (test e.0) as (λ c. Rises (cond c es (e ∷ remove_entry test es))) [
    | true ↦ s.1
    | false ↦ (all-remove_entry (λ k. R e.0 k ≡ Less) test es s.0, rising-remove_entry test es s.1)
  ]
    where
      all-remove_entry : (P : K → Type 0) (test : K → Bool) (es : List (K × V)) →
          AllKeys P es → AllKeys P (remove_entry test es)
      all-remove_entry P test [] a = tt
      all-remove_entry P test (e ∷ es) a =
          elim (test e.0) as (λ c. AllKeys P (cond c es (e ∷ remove_entry test es))) [
            | true ↦ a.1
            | false ↦ (a.0, all-remove_entry P test es a.1)
          ]

module _ {K : Type 0} {R : K → K → Ordering} (o : IsTotalOrder R) where
  pub greater_from_less : (x y : K) → R x y ≡ Less → R y x ≡ Greater
  greater_from_less x y h = rw (o.antisymm y x, h) refl

  pub less_from_greater : (x y : K) → R x y ≡ Greater → R y x ≡ Less
  less_from_greater x y h = rw (o.antisymm y x, h) refl

  -- where q is above the key k, it is above what k is above; likewise below
  pub greater_trans : (q k y : K) → R q k ≡ Greater → R y k ≡ Less → R q y ≡ Greater
  greater_trans q k y g l = greater_from_less y q (o.trans y k q l (less_from_greater q k g))

  pub equal_greater : (q k y : K) → R q k ≡ Equal → R y k ≡ Less → R q y ≡ Greater
  equal_greater q k y e l = o.congr q k y e ∙ greater_from_less y k l

module _ {K V : Type 0} {R : K → K → Ordering} (o : IsTotalOrder R) where
  pub past_left : (q : K) (l : List (K × V)) (e : K × V) (r : List (K × V)) →
      Rises R (l ++ e ∷ r) → R q e.0 ≡ Greater → IsPast R q l
  past_left q l e r s g = all_keys_map (λ k. R k e.0 ≡ Less) (λ k. R q k ≡ Greater)
      (λ y h. greater_trans o q e.0 y g h) l (rising_all R l e r s).0

  pub past_left_equal : (q : K) (l : List (K × V)) (e : K × V) (r : List (K × V)) →
      Rises R (l ++ e ∷ r) → R q e.0 ≡ Equal → IsPast R q l
  past_left_equal q l e r s g = all_keys_map (λ k. R k e.0 ≡ Less) (λ k. R q k ≡ Greater)
      (λ y h. equal_greater o q e.0 y g h) l (rising_all R l e r s).0

  pub before_right : (q : K) (l : List (K × V)) (e : K × V) (r : List (K × V)) →
      Rises R (l ++ e ∷ r) → R q e.0 ≡ Less → IsBefore R q (e ∷ r)
  before_right q l e r s h = (
    h,
    all_keys_map (λ k. R e.0 k ≡ Less) (λ k. R q k ≡ Less)
        (λ y t. o.trans q e.0 y h t) r (rising_all R l e r s).1,
  )

  -- ---- a node: entries on the left, one entry, entries on the right
  module _ (q : K) (l : List (K × V)) (k : K) (w : V) (r : List (K × V)) (s : Rises R (l ++ (k, w) ∷ r)) where
    pub lookup_left : R q k ≡ Less → lookup (is_at (R q)) (l ++ (k, w) ∷ r) ≡ lookup (is_at (R q)) l
    lookup_left h = lookup-front R q l ((k, w) ∷ r) (before_right q l (k, w) r s h)

    pub lookup_middle : R q k ≡ Equal → lookup (is_at (R q)) (l ++ (k, w) ∷ r) ≡ Some w
    lookup_middle h = lookup-past R q l ((k, w) ∷ r) (past_left_equal q l (k, w) r s h) ∙ rw h refl

    pub lookup_right : R q k ≡ Greater → lookup (is_at (R q)) (l ++ (k, w) ∷ r) ≡ lookup (is_at (R q)) r
    lookup_right h = lookup-past R q l ((k, w) ∷ r) (past_left q l (k, w) r s h) ∙ rw h refl

    pub insert_left : (v : V) → R q k ≡ Less → insert_entry R (l ++ (k, w) ∷ r) q v ≡
        insert_entry R l q v ++ (k, w) ∷ r
    insert_left v h = insert_entry-front R q v l (k, w) r h

    pub insert_middle : (v : V) → R q k ≡ Equal → insert_entry R (l ++ (k, w) ∷ r) q v ≡ l ++ (k, v) ∷ r
    insert_middle v h = insert_entry-past R q v l ((k, w) ∷ r) (past_left_equal q l (k, w) r s h) ∙ rw h refl

    pub insert_right : (v : V) → R q k ≡ Greater → insert_entry R (l ++ (k, w) ∷ r) q v ≡
        l ++ (k, w) ∷ insert_entry R r q v
    insert_right v h = insert_entry-past R q v l ((k, w) ∷ r) (past_left q l (k, w) r s h) ∙ rw h refl

    pub remove_left : R q k ≡ Less → remove_entry (is_at (R q)) (l ++ (k, w) ∷ r) ≡
        remove_entry (is_at (R q)) l ++ (k, w) ∷ r
    remove_left h = remove_entry-front R q l ((k, w) ∷ r) (before_right q l (k, w) r s h)

    pub remove_middle : R q k ≡ Equal → remove_entry (is_at (R q)) (l ++ (k, w) ∷ r) ≡ l ++ r
    remove_middle h = remove_entry-past R q l ((k, w) ∷ r) (past_left_equal q l (k, w) r s h) ∙ rw h refl

    pub remove_right : R q k ≡ Greater → remove_entry (is_at (R q)) (l ++ (k, w) ∷ r) ≡ l ++
        (k, w) ∷ remove_entry (is_at (R q)) r
    remove_right h = remove_entry-past R q l ((k, w) ∷ r) (past_left q l (k, w) r s h) ∙ rw h refl

  all-insert_entry : (P : K → Type 0) (q : K) (v : V) (es : List (K × V)) → P q →
      AllKeys P es → AllKeys P (insert_entry R es q v)
  all-insert_entry P q v [] p a = (p, tt)
  all-insert_entry P q v (e ∷ es) p a =
      elim (R q e.0) as (λ c. AllKeys P
      (match_ordering c ((q, v) ∷ e ∷ es) ((e.0, v) ∷ es) (e ∷ insert_entry R es q v))) [
        | Less ↦ (p, a)
        | Equal ↦ a
        | Greater ↦ (a.0, all-insert_entry P q v es p a.1)
      ]

  rising_insert_cases : (q : K) (v : V) (e : K × V) (es : List (K × V)) (c : Ordering) →
      R q e.0 ≡ c → Rises R (e ∷ es) → Rises R (insert_entry R es q v) →
      Rises R (match_ordering c ((q, v) ∷ e ∷ es) ((e.0, v) ∷ es) (e ∷ insert_entry R es q v))
  unfolding IsStrictlySortedBy
  rising_insert_cases q v e es Less h s u =
      ((h, all_keys_map (λ k. R e.0 k ≡ Less) (λ k. R q k ≡ Less) (λ y t. o.trans q e.0 y h t) es s.0), s)
  rising_insert_cases q v e es Equal h s u = s
  rising_insert_cases q v e es Greater h s u =
      (all-insert_entry (λ k. R e.0 k ≡ Less) q v es (less_from_greater o q e.0 h) s.0, u)

  pub rising-insert_entry : (q : K) (v : V) (es : List (K × V)) → Rises R es → Rises R (insert_entry R es q v)
  rising-insert_entry q v [] s = rising_one R (q, v)
  rising-insert_entry q v (e ∷ es) s =
      rising_insert_cases q v e es (R q e.0) refl s (rising-insert_entry q v es (rising_tail R e es s))

  -- ---- the same as records
  pub keys_stay_rising : (q : K) (v : V) (es : List (K × V)) → HasRisingKeys R es →
      HasRisingKeys R (insert_entry R es q v)
  keys_stay_rising q v es s = record { rising = rising-insert_entry q v es s.rising }

  pub rest_stays_rising : (test : K → Bool) (es : List (K × V)) → HasRisingKeys R es →
      HasRisingKeys R (remove_entry test es)
  rest_stays_rising test es s = record { rising = rising-remove_entry R test es s.rising }

pub one_rises : {K V : Type 0} (R : K → K → Ordering) (e : K × V) → HasRisingKeys R (e ∷ [])
one_rises R e = record { rising = rising_one R e }
