-- What a session has given, and to what it is logged in, came by lines of its client.
use Rattle.std.proofs.Common.{arith, ◌≡◌, ◌⊎◌, ◌∙◌, ℕ, true, false, List}
use Rattle.std.proofs.Common.{Option, Some, None, refl, sym, ap, subst, inl, inr}
use Rattle.std.specs.Prelude.{option_map}
use Rattle.std.specs.Option.{option_map_or}
use Rattle.std.proofs.lemmas.Bool.{both_ways}
use Rattle.nutcore.proofs.Common.{same_Some, UpsId, SessionState, ServerState, session, with_session_changed}
use Rattle.nutanswer.specs.declared.reply.Change.TheVariants as changes
use Rattle.nutanswer.specs.View.{AskerSeen}
use Rattle.nutcore.specs.Session.{find}
use Rattle.nutcore.specs.Reply.{asker, asker_of, reply, text_to}
use Rattle.nutcore.specs.Pump.{answered, after_line, notified}
use Rattle.nutcore.specs.Step.{joined, taken_from}
use Rattle.nutcore.specs.History.{Execution, of_line}
use Rattle.nutcore.specs.ByRight.{GivesUsername, GivesPassword, LogsInByRight, is_logged_in_of}
use Rattle.nutcore.specs.ByRight.{CredentialsAreGivenByLines, ALoginIsByRight}
use Rattle.nutcore.proofs.Changed.{session_changed, presence_other}
use Rattle.nutcore.proofs.Changes.{keeps}
use Rattle.nutcore.proofs.Histories.{own_or_other, of_plain}
use Rattle.nutcore.proofs.Loops.{found_after_line}
use Rattle.nutcore.proofs.Marks.{IsMark, told, held_after, held_at}
use Rattle.nutcore.proofs.Progress.{Presence}
use Rattle.nutcore.proofs.Pumping.{is_next, change_at, session_after, other_after_line}
use Rattle.nutcore.proofs.Rows.{some_command, comes_of_line, by_right}

-- what a session has of what a client gives
module _ {A : Type 0} (get : AskerSeen → Option A) (a : A) (c : ℕ) where
  abbrev Has : ServerState → Type 0
  Has s = get (asker c s) ≡ Some a

  by_session : (f : SessionState → SessionState) →
      ((x : SessionState) → (f x).id ≡ x.id) →
      ((x : SessionState) → get (asker_of (Some (f x))) ≡ Some a → get (asker_of (Some x)) ≡
      Some a) → (s : ServerState) (d : ℕ)
      → Has (with_session_changed f d s) → Has s
  by_session f id fewer s d =
      own_or_other c d (λ z b. get (asker z (with_session_changed f d s)) ≡ Some a →
      get (asker z s) ≡ Some a) (λ has. own (session d s)
      (subst (λ o. get (asker_of o) ≡ Some a) (session_changed f id d s) has))
      (λ differ has. subst (λ (p : Presence). get (asker_of p.session) ≡ Some a)
      (presence_other f id c d s differ) has)
    where
      own : (o : Option SessionState) → get (asker_of (option_map f o)) ≡ Some a → get (asker_of o) ≡ Some a
      own None has = has
      own (Some x) has = fewer x has

  -- only lines of its client give it, where a session without anything, and one whose line is too
  -- long, has no more
  is_given : (Gives : ℕ → Execution → Type 0) → (get (asker_of None) ≡ Some a → ⊥) →
      ((x : SessionState) → get (asker_of (Some (notified x))) ≡ Some a → get (asker_of (Some x)) ≡ Some a)
      → ((s : ServerState) (d : ℕ) (line : List ℕ) (x : SessionState) →
      get (asker_of (Some (session_after s d line x))) ≡ Some a →
      (get (asker_of (Some x)) ≡ Some a) ⊎ Gives d (of_line s d line)) → IsMark Has (Gives c)
  is_given Gives none told line = record {
    line = λ s d words next. own_or_other c d
        (λ z b. get (asker z (after_line s d)) ≡ Some a →
        (get (asker z s) ≡ Some a) ⊎ Gives z (of_line s d words))
        (λ has. let n = is_next s d words next in
        subst (λ o. (get (asker_of o) ≡ Some a) ⊎ Gives d (of_line s d words)) (sym n.found)
        (line s d words n.asking (subst (λ o. get (asker_of o) ≡ Some a)
        (found_after_line s d words n.asking n.found next) has)))
        (λ differ has. inl (subst (λ (p : Presence). get (asker_of p.session) ≡ Some a)
        (other_after_line c d s words next differ) has));
    notice = λ s d. by_session notified (λ x. refl) told s d;
    joins = λ s d piece. by_session (joined piece) (λ x. refl) (λ x has. has) s d;
    gives = λ s d n. by_session (taken_from n) (λ x. refl) (λ x has. has) s d;
    plain = λ s e m plain. of_plain (λ o. get (asker_of o) ≡ Some a → Has s) c s e m plain
        (λ has. has) (λ has. absurd (none has)) (λ address same absent has. absurd (none has));
  }

-- what it gives is its own command's, of a change that gives it
came_by : {A : Type 0} (before after : Option A) (a : A) (Gave : A → Type 0) →
    (after ≡ before) ⊎ ((b : A) × Gave b × (after ≡ Some b)) → after ≡ Some a →
    (before ≡ Some a) ⊎ Gave a
came_by before after a Gave (inl same) has = inl (sym same ∙ has)
came_by before after a Gave (inr (b, gave, now)) has = inr (subst Gave (same_Some b a (sym now ∙ has)) gave)

usernames : (name : List ℕ) (c : ℕ) → IsMark (Has (λ (v : AskerSeen). v.username) name c) (GivesUsername c name)
usernames name c =
    is_given (λ v. v.username) name c (λ d. GivesUsername d name) (λ none. cc none) (λ x has. has)
    (λ s d line x has. elim (came_by _ _ name _
    (keeps (change_at s d line) (answered line (reply s d line) x)).username has) [
      | inl was ↦ inl was
      | inr is ↦ (let came = comes_of_line s d line (changes.Username name) refl is in
          inr (refl, came.read ∙ ap some_command came.row.is, ap (text_to s d) came.read ∙ came.row.text))
    ])

passwords : (word : List ℕ) (c : ℕ) → IsMark (Has (λ (v : AskerSeen). v.password) word c) (GivesPassword c word)
passwords word c =
    is_given (λ v. v.password) word c (λ d. GivesPassword d word) (λ none. cc none) (λ x has. has)
    (λ s d line x has. elim (came_by _ _ word _
    (keeps (change_at s d line) (answered line (reply s d line) x)).password has) [
      | inl was ↦ inl was
      | inr is ↦ (let came = comes_of_line s d line (changes.Password word) refl is in
          inr (refl, came.read ∙ ap some_command came.row.is, ap (text_to s d) came.read ∙ came.row.text))
    ])

logs_in : (u : UpsId) (c : ℕ) → IsMark (Has (λ (v : AskerSeen). v.login) u c) (LogsInByRight c u)
logs_in u c =
    is_given (λ v. v.login) u c (λ d. LogsInByRight d u) (λ none. cc none) (λ x has. cc has)
    (λ s d line x has. elim (keeps (change_at s d line) (answered line (reply s d line) x)).login [
      | inl same ↦ inl (sym same ∙ has)
      | inr (inl gone) ↦ (let never : None ≡ Some u = sym gone ∙ has in cc never)
      | inr (inr (v, is, now)) ↦ (let came =
          comes_of_line s d line (changes.Login u) refl
          (is ∙ ap (λ (w : UpsId). changes.Login w) (same_Some v u (sym now ∙ has))) in
          inr (refl, by_right s d line came.command _ _ _ u came.read came.row.by_right))
    ])

-- on a server without sessions nobody has given anything
pub given_before : CredentialsAreGivenByLines
given_before old new events outcomes before after s c line empty run e = record {
  username = λ name asked. elim (held_at (told (usernames name c) old) old new events outcomes run
      (λ so. inl so) before after s c line e asked) [
        | inl was ↦ (let never : None ≡ Some name =
            ap (λ (xs : List SessionState). (asker_of (find c xs)).username) (sym empty) ∙ was in cc never)
        | inr one ↦ one
      ];
  password = λ word asked. elim (held_at (told (passwords word c) old) old new events outcomes run
      (λ so. inl so) before after s c line e asked) [
        | inl was ↦ (let never : None ≡ Some word =
            ap (λ (xs : List SessionState). (asker_of (find c xs)).password) (sym empty) ∙ was in cc never)
        | inr one ↦ one
      ];
}

-- the login of an open session
logged_in : (u : UpsId) (o : Option SessionState) → option_map_or (is_logged_in_of u) o false ≡
    true → (asker_of o).login ≡ Some u
logged_in u o h = grind arith

logged_in_so : (u : UpsId) (o : Option SessionState) → (asker_of o).login ≡ Some u →
    option_map_or (is_logged_in_of u) o false ≡ true
logged_in_so u o e = grind arith

pub logins : ALoginIsByRight
logins old new events outcomes c u run before after =
    elim (held_after (told (logs_in u c) old) old new events outcomes run (λ so. inl so)
    (logged_in u (session c new) after))
    [ inl was ↦ absurd (both_ways _ before (logged_in_so u (session c old) was)) | inr one ↦ one ]
