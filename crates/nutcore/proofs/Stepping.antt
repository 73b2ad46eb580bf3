-- What each event, and a run of them, does to each client's presence.
use Rattle.std.proofs.Common.{◌≡◌, ◌≢◌, ℕ, true, false, List, [], ◌++◌, Option}
use Rattle.std.proofs.Common.{Some, refl, sym, ◌∙◌, ap, arith, take, append-nil}
use Rattle.std.proofs.lemmas.Bool.{cond-true, lt-ltb}
use Rattle.std.proofs.lemmas.List.{take-append-drop}
use Rattle.nutcore.proofs.Common.{never_both, flat_map-append, Event, Outcome, ServerState, Run}
use Rattle.nutwords.specs.SplitLine.{with_lf}
use Rattle.nutcore.specs.Reply.{reply, too_long_notice}
use Rattle.nutcore.specs.Pump.{answered, notified, owed_of, held_of}
use Rattle.nutcore.specs.Step.{accepted_bytes, joined, with_input, taken_from, without_output, pumped_until}
use Rattle.nutcore.specs.History.{Execution, answers, taken, asked, executed, texts_of, lines_of, text_of, line_of}
use Rattle.nutcore.specs.Headline.{IsLawful, SentAndOwed, TakenUp}
use Rattle.nutcore.proofs.Changes.{keeps}
use Rattle.nutcore.proofs.Changed.{presence_other}
use Rattle.nutcore.proofs.Progress.{Presence, presence, is_closed, is_over, Progress, IsKept}
use Rattle.nutcore.proofs.Progress.{half_joins, half_moves, half_stays, half_ends}
use Rattle.nutcore.proofs.Pumping.{change_at, other_after_line}
use Rattle.nutcore.proofs.Histories.{until_keeps, IsOfClient, of_run_of_client}
use Rattle.nutwords.proofs.PublicLaws.{first_line_and_the_rest_are_all}
use Rattle.nutwords.specs.SplitLine.{rest_after}

pub input_other : (c d : ℕ) (s : ServerState) (piece : List ℕ) → c ≢ d →
    presence c (with_input s d piece) ≡ presence c s
unfolding with_input
input_other c d s piece differ = presence_other (joined piece) (λ x. refl) c d s differ

pub output_other : (c d : ℕ) (s : ServerState) (n : ℕ) → c ≢ d →
    presence c (without_output s d n) ≡ presence c s
unfolding without_output
output_other c d s n differ = presence_other (taken_from n) (λ x. refl) c d s differ

-- another's pump leaves a client as it is
pub until_other : (c d : ℕ) (s : ServerState) (m : Option ℕ) → c ≢ d →
    presence c (pumped_until s d m) ≡ presence c s
until_other c d s m differ = until_keeps d (λ s xs t. presence c t ≡ presence c s) (record {
  stays = λ s. refl;
  joins = λ s m t xs ys f g. g ∙ f;
  by_line = λ s line next. other_after_line c d s line next differ;
  by_notice = λ s long. presence_other notified (λ x. refl) c d s differ;
}) s m

-- each event
abbrev pub Goes : Presence → List Execution → List ℕ → List ℕ → Presence → Type 0
Goes p xs taken asked q = IsKept p → Progress p (texts_of xs) taken asked (lines_of xs) q

pub goes : IsOfClient Goes
goes = record {
  joins = λ p q r xs ys k k' a a' f g kept.
      let first = f kept in
      let next = g (first.keeps kept) in
      record {
        sent = rw (flat_map-append text_of xs ys)
            (half_joins (is_closed p) (is_closed q) (is_closed r) _ _ _ _ _ _ _ first.sent next.sent);
        taken_up = rw (flat_map-append line_of xs ys)
            (half_joins (is_over p) (is_over q) (is_over r) _ _ _ _ _ _ _ first.taken_up next.taken_up);
        keeps = λ h. next.keeps (first.keeps h);
      };
  stays = λ o u v up kept. record {
    sent = half_stays _ _ (owed_of o) (grind arith);
    taken_up = half_stays _ _ (held_of o) (grind arith);
    keeps = λ h some. up (h some);
  };
  by_line = λ c s line n u kept.
      let x = n.asking in
      let text : List ℕ = reply s c line in
      let after = keeps (change_at s c line) (answered line text x) in
      let split : x.held ++ [] ≡ (with_lf line ++ []) ++ rest_after line x.held =
      rw (append-nil x.held, append-nil (with_lf line)) (first_line_and_the_rest_are_all x.held line n.first) in
      record {
        sent = half_moves false x.owed (text ++ []) [] _
            (ap (λ z. x.owed ++ z) (append-nil text) ∙ sym after.owed) (λ (h : false ≡ true). cc h);
        taken_up = record {
          left = rest_after line x.held;
          is = split;
          going = λ e. sym (after.held e);
          stays = λ e. never_both x.ending e n.going;
        };
        keeps = λ h. h;
      };
  by_notice = λ c s x u long kept. record {
    sent = half_moves false x.owed too_long_notice [] _ refl (λ (h : false ≡ true). cc h);
    taken_up = half_ends x.ending x.held;
    keeps = λ h. h;
  };
  by_input = λ piece x u kept.
      record {
        sent = half_stays false false x.owed (λ h. h);
        taken_up =
            half_moves x.ending x.held (accepted_bytes (Some x) piece) [] _ refl (λ h. (cond-true _ _ _ h, refl));
        keeps = λ h. h;
      };
  by_output = λ n x u kept. record {
    sent = half_moves false x.owed [] (take n x.owed) _
        (append-nil x.owed ∙ sym (take-append-drop n x.owed)) (λ (h : false ≡ true). cc h);
    taken_up = half_stays x.ending x.ending x.held (λ h. h);
    keeps = λ h. h;
  };
  opens = λ id address kept. record {
    sent = half_stays false false [] (λ h. h);
    taken_up = half_stays false false [] (λ h. h);
    keeps = λ h k. refl;
  };
  closes = λ x u kept. rw (kept refl)
      (record {
        sent = half_ends false x.owed;
        taken_up = half_ends x.ending x.held;
        keeps = λ h (k : false ≡ true). cc;
      });
}

-- the laws of every run
run_goes : (c : ℕ) (s t : ServerState) (es : List Event) (os : List Outcome) → Run s es os t →
    IsLawful s → Progress (presence c s) (answers c s es os) (taken c s es os) (asked c s es os)
    (executed c s es os) (presence c t)
run_goes c s t es os r lawful = of_run_of_client Goes goes c s t es os r (λ h. lt-ltb _ _ (lawful c h))

pub run_sent : (s t : ServerState) (es : List Event) (os : List Outcome) → IsLawful s →
    Run s es os t → (c : ℕ) → SentAndOwed c s es os t
run_sent s t es os lawful r c = let g = (run_goes c s t es os r lawful).sent in
    record {
      while_open = λ e. g.is ∙ ap (λ z. taken c s es os ++ z) (g.going e);
      once_closed = λ e. (g.left, sym g.is);
    }

pub run_taken_up : (s t : ServerState) (es : List Event) (os : List Outcome) → IsLawful s →
    Run s es os t → (c : ℕ) → TakenUp c s es os t
run_taken_up s t es os lawful r c = let g = (run_goes c s t es os r lawful).taken_up in
    record {
      while_going = λ e. g.is ∙
          ap (λ z. executed c s es os ++ z) (g.going e);
      once_over = λ e. (g.left, sym g.is);
    }
