-- What a sound server lists comes once, in the stated order.
use Rattle.std.proofs.Common.{◌≡◌, ◌↔◌, ◌∙◌, ℕ, Bool, true, List, [], ◌∷◌}
use Rattle.std.proofs.Common.{Option, Some, None, Result, Ok, sym, ap, subst, arith, ◌++◌}
use Rattle.std.proofs.Common.{◌+◌}
use Rattle.std.specs.Prelude.{codes, take, drop}
use Rattle.std.specs.List.{Contains, filter, AllByRecursion}
use Rattle.std.specs.List.Sorted.{IsStrictlySortedBy}
use Rattle.std.specs.Map.{keys_of}
use Rattle.std.specs.BTreeMap.{is_at}
use Rattle.std.specs.declared.cmp.Ordering.TheVariants.{Less}
use Rattle.std.specs.Option.{ok_or, option_map}
use Rattle.std.proofs.lemmas.Cmp.{nat_list_cmp_total, eq_by_cmp_equiv}
use Rattle.std.proofs.lemmas.List.{take-append-drop}
use Rattle.std.proofs.lemmas.List.Elements.{filter_more, filter-append, Contains-push, All-contains}
use Rattle.std.proofs.lemmas.List.Elements.{All-contains_itself, All-filter, filter_passes}
use Rattle.std.proofs.lemmas.List.Elements.{Contains-append_left}
use Rattle.std.proofs.lemmas.Map.Keys.{IsDistinct-from_sorted}
use Rattle.std.proofs.lemmas.Map.Lookups.{exact_bytes}
use Rattle.std.proofs.lemmas.Map.Views.{lookup-from_Contains, Contains-from_lookup}
use Rattle.std.proofs.lemmas.Map.Views.{list_any-from_Contains, Contains-from_any}
use Rattle.nutmap.specs.Entries.{value_at}
use Rattle.nutdriver.specs.Variable.{VariableState}
use Rattle.nutdriver.specs.Tree.{byte_order, variable_at}
use Rattle.nutdriver.specs.Sound.{IsSoundTree}
use Rattle.nutlisting.specs.Items.{variable_item, is_rw, enum_listing, range_listing}
use Rattle.nutcommand.specs.declared.err_word.ErrWord.{ErrWord}
use Rattle.nutcommand.specs.declared.err_word.ErrWord.TheVariants.{VarNotSupported}
use Rattle.nutanswer.specs.View.{Seen, UpsSeen}
use Rattle.nutanswer.specs.Checks.{◌>>=◌, ◌>>◌, KnownUps, ups_named, known_ups, live, known_variable}
use Rattle.nutanswer.specs.Answer.{Answer, listing, in_one_line, text_of_answer}
use Rattle.nutcore.specs.Server.{ServerState}
use Rattle.nutcore.specs.Reply.{seen, seen_ups, text_to}
use Rattle.nutcore.specs.Sound.{Each, IsSoundUps, IsSound}
use Rattle.nutcore.specs.Listed.{AsksOf, EachIsListedOnce, WhatIsListedIsWhatIsHeld}
use Rattle.nutlisting.proofs.PublicLaws.{sound_entries}
use Rattle.nutanswer.proofs.PublicLaws.{a_named_ups_is_seen}
use Rattle.nutcore.proofs.SoundUps.{each_get, each_map}

-- a UPS that is named is one of those seen
module _ (P : UpsSeen → Type 0) where
  pub of_named : (s : Seen) → Each P s.upses → (ups : Option (List ℕ)) (u : KnownUps) →
      ups_named s ups ≡ Some u → P u.state
  of_named s all ups u named = each_get P s.upses u.id.place u.state (a_named_ups_is_seen s ups u named).stands all

abbrev has_sound_tree : UpsSeen → Type 0
has_sound_tree x = IsSoundTree x.report.tree

tree_of : (s : ServerState) (ups : Option (List ℕ)) (u : KnownUps) → IsSound s →
    ups_named (seen s) ups ≡ Some u → IsSoundTree u.state.report.tree
tree_of s ups u sound named =
    of_named has_sound_tree (seen s)
    (each_map (IsSoundUps s.moment) has_sound_tree seen_ups (λ x h. h.tree) s.upses sound.upses) ups u named

-- the row of a usable UPS, and of a variable that it has
variable_row : (s : ServerState) (ups : Option (List ℕ)) (u : KnownUps) (name : List ℕ)
    (o : Option VariableState) (row : KnownUps → List ℕ × VariableState →
    Result Answer ErrWord) → AsksOf s ups u → variable_at u.state.report.tree name ≡ o
    → (known_ups (seen s) ups >>=
    (λ k. live (seen s) k >> (known_variable k (Some name) >>= (λ v. row k v)))) ≡
    (ok_or (option_map (λ x. (name, x)) o) VarNotSupported >>= (λ v. row u v))
variable_row s ups u name o row asks e = cc (asks.named, asks.ready, e)

-- what is left of rising keys rises
all_left : (p : List ℕ × VariableState → Bool) (P : List ℕ → Type 0)
    (es : List (List ℕ × VariableState)) → AllByRecursion P (keys_of es) →
    AllByRecursion P (keys_of (filter p es))
all_left p P [] all = tt
all_left p P (e ∷ es) all = grind (arith, all_left p P es all.1)

left_rise : (p : List ℕ × VariableState → Bool) (es : List (List ℕ × VariableState)) →
    IsStrictlySortedBy byte_order (keys_of es) → IsStrictlySortedBy byte_order (keys_of (filter p es))
unfolding IsStrictlySortedBy
left_rise p [] rise = tt
left_rise p (e ∷ es) rise = grind
    (arith, all_left p (λ k. byte_order e.0 k ≡ Less) es rise.0, left_rise p es rise.1)

pub listed_once : EachIsListedOnce
listed_once = record {
  variables = λ s c line ups u read asks. (cc (read, asks.named, asks.ready), λ sound. sound.names_rise);
  commands = λ s c line ups u read asks. (cc (read, asks.named, asks.ready), λ sound. sound.commands_rise);
  rw = λ s c line ups u read asks. (
    cc (read, asks.named, asks.ready),
    λ sound. record { rising = left_rise is_rw u.state.report.tree.variables sound.names_rise.rising },
  );
  enum_values = λ s c line ups name u variable read asks there. (
    ap (text_to s c) read ∙ ap text_of_answer
        (variable_row s ups u name (Some variable)
        (λ k v. Ok (listing (enum_listing k.name v.0 (Some v.1)))) asks there),
    λ sound. (sound_entries.found u.state.report.tree name variable sound there).enum_values_once,
  );
  ranges = λ s c line ups name u variable read asks there. (
    ap (text_to s c) read ∙ ap text_of_answer
        (variable_row s ups u name (Some variable)
        (λ k v. Ok (listing (range_listing k.name v.0 (Some v.1)))) asks there),
    λ sound. (sound_entries.found u.state.report.tree name variable sound there).ranges_once,
  );
  upses = λ s c line read. (ap (text_to s c) read, λ sound. sound.list.by_name);
  tree = tree_of;
}

-- what is held
one_name : (name other : List ℕ) → is_at (byte_order name) other ≡ true → name ≡ other
one_name name other h = grind (arith, exact_bytes name other)

held_by : (es : List (List ℕ × VariableState)) (name : List ℕ) (variable : VariableState) →
    IsStrictlySortedBy byte_order (keys_of es) → Contains es (name, variable) ↔
    (value_at byte_order es name ≡ Some variable)
held_by es name variable rise = (
  λ h. lookup-from_Contains (eq_by_cmp_equiv nat_list_cmp_total) name variable es
      (IsDistinct-from_sorted byte_order (keys_of es) rise) h,
  λ e. Contains-from_lookup one_name name variable es e,
)

module _ {A : Type 0} (p : A → Bool) where
  passing : (xs : List A) (y : A) → Contains (filter p xs) y → Contains xs y × (p y ≡ true)
  passing xs y h = (
    All-contains (Contains xs) (filter p xs) y (All-filter p (Contains xs) xs (All-contains_itself xs)) h,
    All-contains (λ x. p x ≡ true) (filter p xs) y (filter_passes p xs) h,
  )

  passed : (xs : List A) (y : A) → Contains xs y → p y ≡ true → Contains (filter p xs) y
  passed xs y (k, within, at) e =
      let all : filter p xs ≡ (filter p (take k xs) ++ y ∷ []) ++ filter p (drop (k + 1) xs) =
      cc (
        filter_more p xs k y within,
        at,
        e,
        filter-append p (take (k + 1) xs) (drop (k + 1) xs),
        take-append-drop (k + 1) xs,
      ) in
      subst (λ (zs : List A). Contains zs y) (sym all)
      (Contains-append_left (filter p (take k xs) ++ y ∷ []) (filter p (drop (k + 1) xs)) y
      (Contains-push (filter p (take k xs)) y))

pub listed_is_held : WhatIsListedIsWhatIsHeld
listed_is_held = record {
  variables = λ tree name variable sound. held_by tree.variables name variable sound.names_rise.rising;
  rw = λ tree name variable sound. (
    λ h. (let r = passing is_rw tree.variables (name, variable) h in
        ((held_by tree.variables name variable sound.names_rise.rising).0 r.0, r.1)),
    λ (e, writable). passed is_rw tree.variables (name, variable)
        ((held_by tree.variables name variable sound.names_rise.rising).1 e) writable,
  );
  commands = λ tree name sound. (
    λ h. list_any-from_Contains (eq_by_cmp_equiv nat_list_cmp_total)
        name tree.commands h,
    λ e. Contains-from_any one_name name tree.commands e,
  );
  got = λ s c line ups name u variable read asks there. ap (text_to s c) read ∙
      ap text_of_answer (variable_row s ups u name (Some variable)
      (λ k v. in_one_line (variable_item (codes "VAR") k.name k.state.fsd v)) asks there);
  refused = λ s c line ups name u read asks there. ap (text_to s c) read ∙
      ap text_of_answer (variable_row s ups u name None
      (λ k v. in_one_line (variable_item (codes "VAR") k.name k.state.fsd v)) asks there);
}
