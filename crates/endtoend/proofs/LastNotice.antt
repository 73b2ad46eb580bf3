-- After the notice that a line is too long nothing of the client is executed.
use Rattle.std.proofs.Common.{◌≡◌, ◌∙◌, ℕ, zero, suc, Bool, true, false, cond, eqb}
use Rattle.std.proofs.Common.{List, [], ◌∷◌, ◌++◌}
use Rattle.std.proofs.Common.{append_assoc, Option, Some, None, refl, sym, ap, subst, length}
use Rattle.std.proofs.Common.{nat_lt, if◌then◌else◌}
use Rattle.std.specs.Option.{option_map_or}
use Rattle.std.proofs.lemmas.Bool.{eq-eqb, eqb-true}
use Rattle.std.proofs.lemmas.List.Elements.{filter-append}
use Rattle.nutcore.specs.declared.event.Event.{Event}
use Rattle.nutcore.specs.declared.event.Event.TheVariants as event
use Rattle.nutcore.specs.declared.event.Outcome.{Outcome}
use Rattle.nutcore.specs.Endings.{WhoIsOverIsAskedNoMore}
use Rattle.nutcore.specs.Headline.{IsLawful}
use Rattle.nutcore.specs.History.{Execution, of_line, of_notice, client_of, next_execution, lines_executed}
use Rattle.nutcore.specs.History.{notice, pump_executions, executions_until, executions_by, executions}
use Rattle.nutcore.specs.History.{of_client, is_over}
use Rattle.nutcore.specs.Pump.{next_line_for, after_line, after_all_lines, after_notice, held_of}
use Rattle.nutcore.specs.Pump.{holds_overlong, is_overlong, notified, with_notice, pumped}
use Rattle.nutcore.specs.Run.{Run}
use Rattle.nutcore.specs.Server.{ServerState, session, with_session, with_session_changed}
use Rattle.nutcore.specs.Session.{SessionState, find, put}
use Rattle.nutcore.specs.Sound.{IsSound, EachEventKeepsTheServerSound, ASoundServerIsLawful}
use Rattle.nutcore.specs.Step.{after, after_by, pumped_until, refused_after, may_take, with_input, without_output}
use Rattle.nutcore.proofs.Found.{find_id, find_put}

pub data NoticeIsLast : List Execution → Type 0 where
  none : NoticeIsLast []
  a_line : {xs : List Execution} (s : ServerState) (c : ℕ) (line : List ℕ) → NoticeIsLast xs
      → NoticeIsLast (of_line s c line ∷ xs)
  last : (s : ServerState) (c : ℕ) → NoticeIsLast (of_notice s c ∷ [])

-- lines, and no notice
AreLines : List Execution → Type 0
AreLines [] = Unit {0}
AreLines (of_line s c line ∷ xs) = AreLines xs
AreLines (of_notice s c ∷ xs) = ⊥

joined : (xs ys : List Execution) → AreLines xs → NoticeIsLast ys → NoticeIsLast (xs ++ ys)
unfolding AreLines
joined [] ys h k = k
joined (of_line s c line ∷ xs) ys h k = a_line s c line (joined xs ys h k)
joined (of_notice s c ∷ xs) ys h k = absurd h

both_lines : (xs ys : List Execution) → AreLines xs → AreLines ys → AreLines (xs ++ ys)
unfolding AreLines
both_lines [] ys h k = k
both_lines (of_line s c line ∷ xs) ys h k = both_lines xs ys h k
both_lines (of_notice s c ∷ xs) ys h k = absurd h

kept_lines : (c : ℕ) (xs : List Execution) → AreLines xs → AreLines (of_client c xs)
unfolding AreLines
kept_lines c [] h = h
kept_lines c (of_line s d line ∷ xs) h = by (eqb d c) (kept_lines c xs h)
  where
    by : (b : Bool) → AreLines (of_client c xs) →
        AreLines (cond b (of_line s d line ∷ of_client c xs) (of_client c xs))
    by true k = k
    by false k = k
kept_lines c (of_notice s d ∷ xs) h = absurd h

next_lines : (s : ServerState) (c : ℕ) (o : Option (List ℕ)) → AreLines (next_execution s c o)
unfolding AreLines
next_lines s c None = tt
next_lines s c (Some line) = tt

executed_lines : (k : ℕ) (s : ServerState) (c : ℕ) → AreLines (lines_executed k s c)
unfolding AreLines lines_executed
executed_lines zero s c = tt
executed_lines (suc k) s c =
    both_lines (next_execution s c (next_line_for s c)) (lines_executed k (after_line s c) c)
    (next_lines s c (next_line_for s c)) (executed_lines k (after_line s c) c)

noticed_over : (t : ServerState) (c : ℕ) → is_overlong t c ≡ true → is_over c (after_notice t c) ≡ true
unfolding after_notice with_session_changed
noticed_over t c long = by (session c t) refl long
  where
    by : (o : Option SessionState) → session c t ≡ o → option_map_or holds_overlong o false ≡ true
        → is_over c (option_map_or (λ x. with_session t (with_notice x)) (session c t) t) ≡ true
    by None e k = cc k
    by (Some x) e k =
        let own : x.id ≡ c = find_id c t.sessions x e in
        let mine : (with_notice x).id ≡ c = ap (λ b. (if b then notified x else x).id) k ∙ own in
        let noted : find c (put (with_notice x) t.sessions) ≡ Some (with_notice x) =
        subst (λ i. find i (put (with_notice x) t.sessions) ≡ Some (with_notice x)) mine
        (find_put (with_notice x) t.sessions x (subst (λ i. find i t.sessions ≡ Some x) (sym mine) e)) in
        ap (λ o. is_over c (option_map_or (λ x. with_session t (with_notice x)) o t)) e
        ∙ ap (λ o. option_map_or (λ (x : SessionState). x.ending) o (nat_lt c t.next_id)) noted
        ∙ ap (λ b. (if b then notified x else x).ending) k

module _ (sound : EachEventKeepsTheServerSound) (lawful : ASoundServerIsLawful) (over : WhoIsOverIsAskedNoMore)
    (c : ℕ) where
  -- after a pump of this client
  behind_pump : (begun new : ServerState) (d : ℕ) (m : Option ℕ) (es : List Event) (os : List Outcome)
      → IsLawful (pumped_until begun d m) → Run (pumped_until begun d m) es os new
      → NoticeIsLast (of_client c (executions (pumped_until begun d m) es os))
      → NoticeIsLast (of_client c (executions_until begun d m ++ executions (pumped_until begun d m) es os))
  unfolding executions_until pumped_until pump_executions pumped AreLines
  behind_pump begun new d (Some k) es os is_lawful run later =
      let rest = executions (pumped_until begun d (Some k)) es os in
      subst NoticeIsLast (sym (filter-append (λ x. eqb (client_of x) c) (lines_executed k begun d) rest))
      (joined (of_client c (lines_executed k begun d)) (of_client c rest)
      (kept_lines c (lines_executed k begun d) (executed_lines k begun d)) later)
  behind_pump begun new d None es os is_lawful run later =
      subst NoticeIsLast (sym (filter-append (λ x. eqb (client_of x) c) (lines ++ notice t d) rest
      ∙ ap (λ xs. xs ++ of_client c rest) (filter-append (λ x. eqb (client_of x) c) lines (notice t d))
      ∙ append_assoc (of_client c lines) (of_client c (notice t d)) (of_client c rest)))
      (joined (of_client c lines) (of_client c (notice t d) ++ of_client c rest)
      (kept_lines c lines (executed_lines (length (held_of (session d begun))) begun d))
      (by (is_overlong t d) refl))
    where
      t : ServerState
      t = after_all_lines begun d

      lines : List Execution
      lines = lines_executed (length (held_of (session d begun))) begun d

      rest : List Execution
      rest = executions (pumped begun d) es os

      own : (b : Bool) → eqb d c ≡ b → is_overlong t d ≡ true
          → NoticeIsLast (cond b (of_notice t d ∷ []) [] ++ of_client c rest)
      own false other long = later
      own true same long =
          let mine : d ≡ c = eqb-true d c same in
          let none_left : of_client c rest ≡ [] =
          (over (pumped begun d) new es os c is_lawful
          (subst (λ e. is_over e (pumped begun d) ≡ true) mine (noticed_over t d long)) run).nothing in
          subst (λ xs. NoticeIsLast (of_notice t d ∷ xs)) (sym none_left) (last t d)

      by : (b : Bool) → is_overlong t d ≡ b
          → NoticeIsLast (of_client c (if b then of_notice t d ∷ [] else []) ++ of_client c rest)
      by false quiet = later
      by true long = own (eqb d c) refl long

  behind_event : (s new : ServerState) (e : Event) (m : Option ℕ) (es : List Event) (os : List Outcome)
      → IsLawful (after_by s e m) → Run (after_by s e m) es os new
      → NoticeIsLast (of_client c (executions (after_by s e m) es os))
      → NoticeIsLast (of_client c (executions_by s e m ++ executions (after_by s e m) es os))
  unfolding executions_by after_by
  behind_event s new (event.Feed d piece) m es os is_lawful run later =
      behind_pump (with_input s d piece) new d m es os is_lawful run later
  behind_event s new (event.Took d n) m es os is_lawful run later = by (may_take (session d s) n) is_lawful run later
    where
      begun : ServerState
      begun = without_output s d n

      by : (b : Bool) → IsLawful (cond b (pumped_until begun d m) s)
          → Run (cond b (pumped_until begun d m) s) es os new
          → NoticeIsLast (of_client c (executions (cond b (pumped_until begun d m) s) es os))
          → NoticeIsLast (of_client c (cond b (executions_until begun d m) []
          ++ executions (cond b (pumped_until begun d m) s) es os))
      by true is_lawful run later = behind_pump begun new d m es os is_lawful run later
      by false is_lawful run later = later
  behind_event s new (event.DriverUp u) m es os is_lawful run later = later
  behind_event s new (event.DriverBytes u piece) m es os is_lawful run later = later
  behind_event s new (event.DriverTook u n) m es os is_lawful run later = later
  behind_event s new (event.DriverDown u) m es os is_lawful run later = later
  behind_event s new (event.Tick seconds) m es os is_lawful run later = later
  behind_event s new (event.Open address) m es os is_lawful run later = later
  behind_event s new (event.Close d) m es os is_lawful run later = later
  behind_event s new (event.Id id) m es os is_lawful run later = later

  pub notice_last : (s new : ServerState) (es : List Event) (os : List Outcome) → IsSound s → Run s es os new
      → NoticeIsLast (of_client c (executions s es os))
  notice_last s new [] [] is_sound run = none
  notice_last s new (e ∷ es) (o ∷ os) is_sound (mid, step, run) =
      let next_sound : IsSound (after s e o) = subst IsSound step.leaves (sound s mid e o step is_sound) in
      let next_run : Run (after s e o) es os new = subst (λ z. Run z es os new) step.leaves run in
      behind_event s new e (refused_after o) es os (lawful (after s e o) next_sound) next_run
      (notice_last (after s e o) new es os next_sound next_run)
  notice_last s new [] (o ∷ os) is_sound run = absurd run
  notice_last s new (e ∷ es) [] is_sound run = absurd run
