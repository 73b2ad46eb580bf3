-- What one client's part of a run says, and how two runs join.
use Rattle.std.proofs.Common.{◌≡◌, ℕ, Bool, true, false, List, [], ◌++◌, Option, refl}
use Rattle.std.proofs.Common.{sym, ◌∙◌, ap, append_assoc, append-nil, ltb}
use Rattle.std.specs.Prelude.{is_some}
use Rattle.std.specs.Option.{option_map_or}
use Rattle.std.proofs.lemmas.Bool.{both_ways}
use Rattle.nutcore.proofs.Common.{SessionState, ServerState, session}
use Rattle.nutcore.specs.Pump.{owed_of, held_of}

-- a client as its history needs it: its session, and whether its id was handed out
pub record Presence : Type 0 where
  pub session : Option SessionState
  pub used : Bool

abbrev pub is_at : Option SessionState → Bool → Presence
is_at o u = record { session = o; used = u }

pub presence_is : {o o' : Option SessionState} {u u' : Bool} → o ≡ o' → u ≡ u' → is_at o u ≡ is_at o' u'
presence_is {o' = o'} {u = u} e f = ap (λ (o : Option SessionState). is_at o u) e ∙ ap (is_at o') f

abbrev pub presence : ℕ → ServerState → Presence
presence c s = is_at (session c s) (ltb c s.next_id)

abbrev pub is_closed : Presence → Bool
is_closed p = option_map_or (λ x. false) p.session p.used

abbrev pub is_over : Presence → Bool
is_over p = option_map_or (λ x. x.ending) p.session p.used

-- a session that is open has an id that was handed out
abbrev pub IsKept : Presence → Type 0
IsKept p = is_some p.session ≡ true → p.used ≡ true

-- one direction of a client's bytes: what was there, and came, is what went, and what is left,
-- which is there unless it is over; once it is over, nothing comes or goes
pub record Half (over_before over_after : Bool) (old came went new : List ℕ) : Type 0 where
  pub left : List ℕ
  pub is : old ++ came ≡ went ++ left
  pub going : over_after ≡ false → left ≡ new
  pub stays : over_before ≡ true → (over_after ≡ true) × (came ≡ []) × (went ≡ [])

pub record Progress (p : Presence) (answers taken asked lines : List ℕ) (q : Presence) : Type 0 where
  pub sent : Half (is_closed p) (is_closed q) (owed_of p.session) answers taken (owed_of q.session)
  pub taken_up : Half (is_over p) (is_over q) (held_of p.session) asked lines (held_of q.session)
  pub keeps : IsKept p → IsKept q

-- two equations that meet in the middle
seam : (o a t m a' t' q : List ℕ) → o ++ a ≡ t ++ m → m ++ a' ≡ t' ++ q → o ++ (a ++ a') ≡ (t ++ t') ++ q
seam o a t m a' t' q e e' =
    sym (append_assoc o a a') ∙ ap (λ z. z ++ a') e ∙ append_assoc t m a' ∙
    ap (λ z. t ++ z) e' ∙ sym (append_assoc t t' q)

-- one after another
pub half_joins : (b m e : Bool) (o a t n a' t' q : List ℕ) → Half b m o a t n →
    Half m e n a' t' q → Half b e o (a ++ a') (t ++ t') q
half_joins b true e o a t n a' t' q f g =
    let k = g.stays refl in
    let whole : o ++ (a ++ a') ≡ (t ++ t') ++ f.left =
    rw (k.1, k.2) (ap (λ z. o ++ z) (append-nil a) ∙ f.is ∙ ap (λ z. z ++ f.left) (sym (append-nil t))) in
    record {
      left = f.left;
      is = whole;
      going = λ h. absurd (both_ways e h k.0);
      stays = λ h. let j = f.stays h in (k.0, ap (λ z. z ++ a') j.1 ∙ k.1, ap (λ z. z ++ t') j.2 ∙ k.2);
    }
half_joins b false e o a t n a' t' q f g = record {
  left = g.left;
  is = seam o a t n a' t' g.left (f.is ∙ ap (λ z. t ++ z) (f.going refl)) g.is;
  going = g.going;
  stays = λ h. (let never : false ≡ true = (f.stays h).0 in cc never);
}

-- some come and go, and none once it is over
pub half_moves : (b : Bool) (old came went new : List ℕ) → old ++ came ≡ went ++ new →
    (b ≡ true → (came ≡ []) × (went ≡ [])) → Half b b old came went new
half_moves b old came went new e none =
    record { left = new; is = e; going = λ h. refl; stays = λ h. (h, (none h).0, (none h).1) }

-- nothing comes or goes
pub half_stays : (b c : Bool) (old : List ℕ) → (b ≡ true → c ≡ true) → Half b c old [] [] old
half_stays b c old up = record { left = old; is = append-nil old; going = λ h. refl; stays = λ h. (up h, refl, refl) }

-- it is over
pub half_ends : (b : Bool) (old : List ℕ) → Half b true old [] [] []
half_ends b old = record {
  left = old;
  is = append-nil old;
  going = λ (h : true ≡ false). cc h;
  stays = λ h. (refl, refl, refl);
}
