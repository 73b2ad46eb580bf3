-- A client that asks one line, in a run of any others.
use Rattle.std.proofs.Common.{arith, ◌≡◌, ◌∙◌, ℕ, true, false, List, [], ◌∷◌}
use Rattle.std.proofs.Common.{◌++◌, Some, refl, sym, ap, eqb, inl, inr, append_assoc}
use Rattle.std.proofs.Common.{append-nil, length, length-append}
use Rattle.std.proofs.lemmas.Bool.{both_ways, false_from_ne_true, eqb-true, lt-ltb}
use Rattle.nutwords.specs.SplitLine.{split_line, first_line}
use Rattle.nutwords.specs.Cut.{has_lf}
use Rattle.nutwords.proofs.PublicLaws.{first_line_is_cut_off}
use Rattle.nutcore.proofs.Common.{cond_both, same_Some, ServerState}
use Rattle.nutwords.specs.SplitLine.{with_lf}
use Rattle.nutcore.specs.History.{Execution, of_line, of_notice, client_of, executions, of_client}
use Rattle.nutcore.specs.History.{lines_of, texts_of, taken, asked, executed, answers}
use Rattle.nutcore.specs.Sound.{Each}
use Rattle.nutcore.specs.Alone.{OneLineIsAnswered}
use Rattle.nutcore.proofs.Found.{cases_Option}
use Rattle.nutcore.proofs.Histories.{IsOfClient, of_run_of_client}
use Rattle.nutcore.proofs.Progress.{Presence, IsKept, is_over, presence}
use Rattle.nutcore.proofs.SoundUps.{each_join}
use Rattle.nutcore.proofs.Stepping.{Goes, goes, run_sent, run_taken_up}

-- it is a line, without LF
abbrev IsWhole : Execution → Type 0
IsWhole (of_line s c line) = has_lf line ≡ false
IsWhole (of_notice s c) = ⊥

-- a next line has no LF
first_whole : (bytes line : List ℕ) → first_line bytes ≡ Some line → has_lf line ≡ false
first_whole bytes line h = elim (cases_Option (split_line bytes)) [
  | inl none ↦ cc (rw none at h)
  | inr (split, is) ↦ (let same : split.0 ≡ line = cc (rw is at h) in
      rw same at (((first_line_is_cut_off bytes split.0 split.1).0 is).1))
]

-- what a run says of the client's executions: they are whole lines, where it isn't over
record Tells (p : Presence) (xs : List Execution) (taken asked : List ℕ) (q : Presence) : Type 0 where
  goes_on : Goes p xs taken asked q
  whole : IsKept p → is_over q ≡ false → Each IsWhole xs

tells : IsOfClient Tells
tells = record {
  joins = λ p q r xs ys k k' a a' f h. record {
    goes_on = goes.joins p q r xs ys k k' a a' f.goes_on h.goes_on;
    whole = λ kept going.
        let kept_on = (f.goes_on kept).keeps kept in
        let before : is_over q ≡ false =
        false_from_ne_true (is_over q)
        (λ over. both_ways (is_over r) going ((h.goes_on kept_on).taken_up.stays over).0) in
        each_join IsWhole xs ys (f.whole kept before) (h.whole kept_on going);
  };
  stays = λ o u v up. record { goes_on = goes.stays o u v up; whole = λ kept going. tt };
  by_line = λ c s line n u. record
      { goes_on = goes.by_line c s line n u; whole = λ kept going. (first_whole n.asking.held line n.first, tt) };
  by_notice = λ c s x u long. record
      { goes_on = goes.by_notice c s x u long; whole = λ kept (going : true ≡ false). cc };
  by_input = λ piece x u. record { goes_on = goes.by_input piece x u; whole = λ kept going. tt };
  by_output = λ n x u. record { goes_on = goes.by_output n x u; whole = λ kept going. tt };
  opens = λ id address. record { goes_on = goes.opens id address; whole = λ kept going. tt };
  closes = λ x u. record { goes_on = goes.closes x u; whole = λ kept going. tt };
}

-- executions of one client
all_its : (c : ℕ) (xs : List Execution) → Each (λ x. client_of x ≡ c) (of_client c xs)
all_its c [] = tt
all_its c (x ∷ xs) = cond_both (eqb (client_of x) c) (x ∷ of_client c xs) (of_client c xs)
    (Each (λ y. client_of y ≡ c)) (λ e. (eqb-true (client_of x) c e, all_its c xs)) (λ e. all_its c xs)

-- bytes that are one line are only that line
no_bytes : (line : List ℕ) (rest : List ℕ) → with_lf line ++ rest ≡ [] → ⊥
no_bytes line rest e = omega (arith, ap length e, length-append (with_lf line) rest, length-append line (10 ∷ []))

none_more : (xs : List Execution) → Each IsWhole xs → lines_of xs ≡ [] → xs ≡ []
none_more [] whole e = refl
none_more (of_line s c line ∷ xs) whole e = absurd (no_bytes line (lines_of xs) e)
none_more (of_notice s c ∷ xs) whole e = absurd whole.0

same_line : (a b rest : List ℕ) → has_lf a ≡ false → has_lf b ≡ false → with_lf a ++
    rest ≡ with_lf b → (a ≡ b) × (rest ≡ [])
same_line a b rest f g e =
    let text : List ℕ = with_lf a ++ rest in
    let one : split_line text ≡ Some (a, rest) =
    (first_line_is_cut_off text a rest).1 (append_assoc a (10 ∷ []) rest, f) in
    let other : split_line text ≡ Some (b, []) = (first_line_is_cut_off text b []).1 (e, g) in
    let same : (a, rest) ≡ (b, []) = same_Some (a, rest) (b, []) (sym one ∙ other) in
    (ap (λ (p : List ℕ × List ℕ). p.0) same, ap (λ (p : List ℕ × List ℕ). p.1) same)

one_line : (c : ℕ) (line : List ℕ) (xs : List Execution) → has_lf line ≡ false →
    Each IsWhole xs → Each (λ x. client_of x ≡ c) xs → lines_of xs ≡ with_lf line →
    (s : ServerState) × (xs ≡ of_line s c line ∷ [])
one_line c line [] none whole its e = absurd (no_bytes line [] (append-nil (with_lf line) ∙ sym e))
one_line c line (of_line s d l ∷ xs) none whole its e =
    let is = same_line l line (lines_of xs) whole.0 none e in
    (s, rw (its.0, is.0, none_more xs whole.1 is.1))
one_line c line (of_notice s d ∷ xs) none whole its e = absurd whole.0

pub one_line_answered : OneLineIsAnswered
one_line_answered old new es os c line lawful absent r asks whole going none_held none_owed =
    let told = of_run_of_client Tells tells c old new es os r in
    let kept : IsKept (presence c old) = λ h. lt-ltb c old.next_id (lawful c h) in
    let up : executed c old es os ≡ asked c old es os =
    sym (rw (absent, none_held, append-nil (executed c old es os)) at
    ((run_taken_up old new es os lawful r c).while_going going)) in
    let one = one_line c line (of_client c (executions old es os)) whole (told.whole kept going)
    (all_its c (executions old es os)) (up ∙ asks) in
    let sent : answers c old es os ≡ taken c old es os =
    rw (absent, none_owed, append-nil (taken c old es os)) at
    ((run_sent old new es os lawful r c).while_open (grind (arith, going))) in
    record {
      server = one.0;
      executed = one.1;
      took = sym sent ∙ ap texts_of one.1 ∙ append-nil _;
    }
