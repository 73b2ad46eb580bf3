-- What is placed is counted: how many lines it has.
use Rattle.std.proofs.Common.{◌≡◌, ◌∙◌, ℕ, ◌+◌, ◌-◌, ◌≤◌, false, List}
use Rattle.std.proofs.Common.{[], ◌++◌, Option, sym, ap, subst, arith, length, take, drop}
use Rattle.std.proofs.Common.{length-take, length-drop, length-append}
use Rattle.std.proofs.lemmas.List.{take_all, drop_all, drop_at, drop-append-le}
use Rattle.std.proofs.Math.Seq.{take-append-add}
use Rattle.nutlisting.specs.Counted.{IsCounted, KeepsCount, WhatIsPlacedIsCounted}
use Rattle.nutlisting.specs.Counts.{is_open, lines, count_more}
use Rattle.nutlisting.specs.Counts.{what_fits}
use Rattle.nutlisting.specs.Items.{ListingState, text_of}
use Rattle.nutlisting.specs.Owed.{Owes, owed as owed_in, rest_of, IsOutbox}
use Rattle.nutlisting.specs.Items.{Position}
use Rattle.nutlisting.specs.declared.outbox.TheConstants.{OWED_LIMIT}
use Rattle.nutlisting.specs.declared.outbox.TheConstants.{QUEUE_LIMIT}
use Rattle.nutlisting.proofs.AddingUp.{lines_add_up}
use Rattle.nutlisting.proofs.Ended.{begun_lines_are_ended}
use Rattle.nutlisting.proofs.Owing.{offered_is}
use Rattle.nutlisting.proofs.Writing.{lines_are_text}

-- every text of a listing ends in LF
listing_ended : (l : ListingState) → is_open (text_of l) ≡ false
listing_ended l = ap is_open (sym (lines_are_text l)) ∙
    begun_lines_are_ended (let p : Position = record { listing = l; done = 0; offset = 0 } in p)

rest_ended : (cursor : Option Position) → is_open (rest_of cursor) ≡ false
rest_ended cursor = grind (arith, begun_lines_are_ended)

-- a queue takes what fits
fits : (queue rest : List ℕ) → length queue ≤ QUEUE_LIMIT →
    take QUEUE_LIMIT (queue ++ rest) ≡ queue ++ what_fits queue rest
fits queue rest le =
    let all : QUEUE_LIMIT ≡ length queue + (QUEUE_LIMIT - length queue) = omega (arith, le) in
    ap (λ n. take n (queue ++ rest)) all ∙ take-append-add queue rest (QUEUE_LIMIT - length queue)

-- what fits of a text that ends in LF has no unfinished line, where all of it fits
fits_ended : (queue rest : List ℕ) → is_open rest ≡ false → length queue ≤ QUEUE_LIMIT →
    length (queue ++ rest) ≤ QUEUE_LIMIT → is_open (what_fits queue rest) ≡ false
fits_ended queue rest whole le few = grind (arith, length-append queue rest, take_all (QUEUE_LIMIT - length queue) rest)

-- a text that ends in LF is joined to what is owed
text_counted : (owed text : List ℕ) (made made' : ℕ) → length owed ≤ OWED_LIMIT →
    is_open text ≡ false → made' ≡ count_more made (lines (what_fits owed text)) →
    KeepsCount owed made (owed ++ text) made'
text_counted owed text made made' few whole more kept c = record {
  within = omega (arith, within, ap length placed, length-append owed new);
  counted = more ∙ small ∙ ap (λ n. n + lines new) made_is ∙
      sym (lines_add_up.counted old new ended) ∙ sym (ap lines tail);
  ended = λ le. ap is_open tail ∙ lines_add_up.unfinished old new ended ∙
      fits_ended owed text whole room (omega (arith, le));
}
  where
    room : length owed ≤ QUEUE_LIMIT
    room = omega (arith, few)

    all : take QUEUE_LIMIT owed ≡ owed
    all = take_all QUEUE_LIMIT owed room

    old : List ℕ
    old = drop kept owed

    new : List ℕ
    new = what_fits owed text

    within : kept ≤ length owed
    within = omega (arith, c.within, ap length all)

    placed : take QUEUE_LIMIT (owed ++ text) ≡ owed ++ new
    placed = fits owed text room

    tail : drop kept (take QUEUE_LIMIT (owed ++ text)) ≡ old ++ new
    tail = ap (drop kept) placed ∙ drop-append-le kept owed new within

    made_is : made ≡ lines old
    made_is = c.counted ∙ ap (λ xs. lines (drop kept xs)) all

    ended : is_open old ≡ false
    ended = ap (λ xs. is_open (drop kept xs)) (sym all) ∙ c.ended few

    small : count_more made (lines new) ≡ made + lines new
    small = omega (
      arith,
      made_is,
      lines_add_up.few old,
      lines_add_up.few new,
      length-drop kept owed,
      length-take (QUEUE_LIMIT - length owed) text,
      few,
    )

-- while so little is owed the queue is all of it
ready_queue : (queue : List ℕ) (cursor : Option Position) → IsOutbox queue cursor →
    length (queue ++ rest_of cursor) ≤ OWED_LIMIT → queue ++ rest_of cursor ≡ queue
ready_queue queue cursor o few = sym
    (take_all QUEUE_LIMIT (queue ++ rest_of cursor) (omega (arith, few))) ∙ offered_is queue cursor o

-- bytes are taken, and the queue is filled again
taken_counted : (queue : List ℕ) (cursor : Option Position) (n made made' : ℕ) →
    IsOutbox queue cursor → n ≤ length queue → made ≡ 0 → made' ≡
    count_more made (lines (what_fits (drop n queue) (rest_of cursor))) →
    IsCounted (length queue - n) (drop n (queue ++ rest_of cursor)) made'
taken_counted queue cursor n made made' o le none more = record {
  within = omega (arith, left, ap length placed, length-append (drop n queue) new);
  counted = more ∙ small ∙ sym (ap lines tail);
  ended = λ few. ap is_open tail ∙
      fits_ended (drop n queue) (rest_of cursor) (rest_ended cursor) room (omega (arith, few, ap length dropped));
}
  where
    new : List ℕ
    new = what_fits (drop n queue) (rest_of cursor)

    left : length (drop n queue) ≡ length queue - n
    left = length-drop n queue

    room : length (drop n queue) ≤ QUEUE_LIMIT
    room = omega (arith, left, o.short)

    dropped : drop n (queue ++ rest_of cursor) ≡ drop n queue ++ rest_of cursor
    dropped = drop-append-le n queue (rest_of cursor) le

    placed : take QUEUE_LIMIT (drop n (queue ++ rest_of cursor)) ≡ drop n queue ++ new
    placed = ap (take QUEUE_LIMIT) dropped ∙ fits (drop n queue) (rest_of cursor) room

    tail : drop (length queue - n) (take QUEUE_LIMIT (drop n (queue ++ rest_of cursor))) ≡ new
    tail = ap (drop (length queue - n)) placed ∙ drop_at (drop n queue) new (length queue - n) left

    small : count_more made (lines new) ≡ lines new
    small = omega (
      arith,
      none,
      lines_add_up.few new,
      length-take (QUEUE_LIMIT - length (drop n queue)) (rest_of cursor),
    )

-- nothing is counted yet
counts_none : (owed : List ℕ) (made : ℕ) → made ≡ 0 → IsCounted (length (take QUEUE_LIMIT owed)) owed made
counts_none owed made none = record {
  within = omega arith;
  counted = none ∙ sym (ap lines past);
  ended = λ few. ap is_open past;
}
  where
    past : drop (length (take QUEUE_LIMIT owed)) (take QUEUE_LIMIT owed) ≡ []
    past = drop_all (length (take QUEUE_LIMIT owed)) (take QUEUE_LIMIT owed) (omega arith)

-- a text is joined to an outbox
joined_counted : (now : List ℕ) (old new : Owes) (text : List ℕ) (made more : ℕ) →
    owed_in old ≡ now → length now ≤ OWED_LIMIT → is_open text ≡ false → owed_in new ≡
    owed_in old ++ text → more ≡ count_more made (lines (what_fits (owed_in old) text)) →
    KeepsCount now made (owed_in new) more
joined_counted now old new text made more same few whole joined is kept c =
    subst (λ (xs : List ℕ). IsCounted kept xs more) (sym joined)
    (text_counted (owed_in old) text made more (omega (arith, few, ap length same)) whole is kept
    (subst (λ (xs : List ℕ). IsCounted kept xs made) (sym same) c))

pub what_is_placed_is_counted : WhatIsPlacedIsCounted
what_is_placed_is_counted = record {
  none = counts_none;
  line = λ now old new line made more same few short whole joined is.
      let one = lines_add_up.one line whole in
      let room : length line ≤ QUEUE_LIMIT - length (owed_in old) = omega (arith, few, short, ap length same) in
      joined_counted now old new line made more same few one.1 joined
      (is ∙ ap (count_more made) (sym
      (ap lines (take_all (QUEUE_LIMIT - length (owed_in old)) line room) ∙ one.0)));
  listing = λ now old new l made more same box few joined is.
      joined_counted now old new (text_of l) made more same few (listing_ended l) joined
      (is ∙ ap (λ (r : List ℕ). count_more made (lines (what_fits r (text_of l))))
      (sym (ready_queue old.queue old.cursor box (omega (arith, few, ap length same)))));
  taken = taken_counted;
}
