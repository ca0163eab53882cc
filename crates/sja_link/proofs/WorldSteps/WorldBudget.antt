-- The world of one link keeps its budget: how much lies on the way, and how much is held.
use Rattle.std.proofs.Common.{◌≡◌, ℕ, ◌+◌, ◌≤◌, Bool, true, false, List, ◌++◌}
use Rattle.std.proofs.Common.{length, drop, sym, ap, ◌∙◌, subst, append_assoc, arith}
use Rattle.std.proofs.lemmas.List.{length-map}
use Rattle.std.proofs.Math.Seq.{drop-append_seam}
use Rattle.sja_journal.specs.declared.down.Down.{Down}
use Rattle.sja_journal.specs.declared.up.Up.{Up}
use Rattle.lemmas.specs.Gathering.{total}
use Rattle.sja_journal.specs.Free.{credit_of}
use Rattle.sja_link.specs.World.{WorldValue, bytes_of, credits_of, is_off, is_start, is_stop, unreleased, held, on_way}
use Rattle.sja_journal.specs.Lists.{messages}
use Rattle.sja_link.specs.Budget.{IsBudget}
use Rattle.sja_link.specs.Inside.Fields.{AreBig, lengths, sends_left, IsWorld}
use Rattle.lemmas.proofs.Gathered.{total_append}
use Rattle.sja_link.proofs.JournalEntries.ListCounts.{messages_both, credits_both, big_after, big_before, big_sum}
use Rattle.sja_link.proofs.JournalEntries.ListCounts.{lengths_both, bytes_sum, credit_sum, down_count, up_count}

module _ (w : WorldValue) (h : IsWorld w) where
  abbrev put : List Down
  put = w.lists.put

  abbrev got : List Down
  got = w.lists.got

  abbrev given : List Up
  given = w.lists.given

  abbrev taken : List Up
  taken = w.lists.taken

  -- the messages put are those released, those got and not released, and those on the way
  parts : messages put ≡ h.released ++ (h.rest ++ messages h.down)
  parts = ap messages h.put_is ∙ messages_both got h.down ∙ ap (λ l. l ++ messages h.down) h.got_is
      ∙ append_assoc h.released h.rest (messages h.down)

  count : length (credits_of given) ≡ length h.released
  count = ap (λ (l : List ℕ). length l) h.credits ∙ length-map h.released (λ (m : List ℕ). length m)

  held_is : held w ≡ bytes_of (h.rest ++ messages h.down)
  held_is = ap (λ n. bytes_of (drop n (messages put))) count ∙ ap (λ l. bytes_of (drop (length h.released) l)) parts
      ∙ ap bytes_of (drop-append_seam h.released (h.rest ++ messages h.down))

  pub rest_is : unreleased w ≡ h.rest
  rest_is = ap (λ n. drop n (messages got)) count ∙ ap (λ l. drop (length h.released) l) h.got_is
      ∙ drop-append_seam h.released h.rest

  pub way_is : on_way w ≡ h.up
  way_is = ap (λ l. drop (length taken) l) h.given_is ∙ drop-append_seam taken h.up

  -- the credits given are the bytes released
  given_sum : total credit_of given ≡ bytes_of h.released
  given_sum = credit_sum given ∙ ap (total (λ n. n)) h.credits ∙ sym (bytes_sum h.released)

  given_parts : total credit_of given ≡ total credit_of taken + total credit_of h.up
  given_parts = ap (total credit_of) h.given_is ∙ total_append credit_of taken h.up

  put_sum : bytes_of (messages put) ≡ bytes_of h.released + (bytes_of h.rest + bytes_of (messages h.down))
  put_sum = ap bytes_of parts ∙ total_append (λ (m : List ℕ). length m) h.released (h.rest ++ messages h.down)
      ∙ ap (λ n. bytes_of h.released + n) (total_append (λ (m : List ℕ). length m) h.rest (messages h.down))

  held_sum : held w ≡ bytes_of h.rest + bytes_of (messages h.down)
  held_sum = held_is ∙ total_append (λ (m : List ℕ). length m) h.rest (messages h.down)

  -- few messages are on the way down
  down_big : AreBig (lengths (messages h.down))
  down_big =
      let all : lengths (messages put) ≡ lengths (h.released ++ h.rest) ++ lengths (messages h.down) =
      ap lengths (parts ∙ sym (append_assoc h.released h.rest (messages h.down)))
      ∙ lengths_both (h.released ++ h.rest) (messages h.down) in
      big_after (lengths (h.released ++ h.rest)) (lengths (messages h.down)) (subst AreBig all h.big)

  pub few_down : length h.down ≤ 22
  few_down =
      let n = down_count h.down in
      let b = big_sum (lengths (messages h.down)) down_big in
      let s = bytes_sum (messages h.down) in
      let l = length-map (messages h.down) (λ (m : List ℕ). length m) in
      let o = total_append is_off got h.down in
      let p = ap (total is_off) h.put_is in
      let off = h.off in let fits = h.fits in
      let g = given_sum in let gp = given_parts in let ps = put_sum in
      omega (arith, n, b, s, l, o, p, off, fits, g, gp, ps)

  -- few items are on the way up
  up_big : AreBig (credits_of h.up)
  up_big =
      let all : lengths (messages put) ≡ lengths h.released ++ lengths (h.rest ++ messages h.down) =
      ap lengths parts ∙ lengths_both h.released (h.rest ++ messages h.down) in
      let rel : AreBig (lengths h.released) =
      big_before (lengths h.released) (lengths (h.rest ++ messages h.down)) (subst AreBig all h.big) in
      let cs : lengths h.released ≡ credits_of taken ++ credits_of h.up =
      sym h.credits ∙ ap credits_of h.given_is ∙ credits_both taken h.up in
      big_after (credits_of taken) (credits_of h.up) (subst AreBig cs rel)

  word_few : (b : Bool) → sends_left b ≤ 1
  word_few true = omega arith
  word_few false = omega arith

  pub few_up : length h.up ≤ 24
  few_up =
      let n = up_count h.up in
      let b = big_sum (credits_of h.up) up_big in
      let s = credit_sum h.up in
      let st = total_append is_start taken h.up in let st2 = ap (total is_start) h.given_is in
      let sp = total_append is_stop taken h.up in let sp2 = ap (total is_stop) h.given_is in
      let start = h.start in let stop = h.stop in let send = h.send in let one = word_few w.may_send in
      let fits = h.fits in let g = given_sum in let gp = given_parts in let ps = put_sum in
      omega (arith, n, b, s, st, st2, sp, sp2, start, stop, send, one, fits, g, gp, ps)

  pub budget : IsBudget w
  budget = record {
    down = h.down;
    up = h.up;
    put_is = h.put_is;
    given_is = h.given_is;
    sum =
        let hs = held_sum in let fits = h.fits in let g = given_sum in let gp = given_parts in let ps = put_sum in
        omega (arith, hs, fits, g, gp, ps);
    few_down = few_down;
    few_up = few_up;
  }
