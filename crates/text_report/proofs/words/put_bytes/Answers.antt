use Rattle.std.proofs.Common.{arith, suc, ◌≡◌, ℕ, List, [], ◌∷◌, ◌+◌, ◌++◌, drop, ap, ◌∙◌, sym}
use Rattle.std.proofs.Common.{append_assoc, drop-cons, get_or, subst}
use Rattle.std.specs.Str.{IsAscii}
use Rattle.std.proofs.lemmas.Str.Ascii.{IsAscii-push}
use Rattle.text_report.specs.ReportWords.{message_words}
use Rattle.text_report.specs.Spacing.{all_spaced}
use Rattle.text_report.proofs.words.put_bytes.Goals as goal

-- three more at the end of a list, before the rest
three_more : (a b c d rest : List ℕ) (x y z : ℕ) → b ≡ a ++ x ∷ [] → c ≡ b ++ y ∷ [] → d ≡ c ++ z ∷ [] →
    d ++ rest ≡ a ++ (x ∷ y ∷ z ∷ rest)
three_more a b c d rest x y z e f g =
    ap (λ l. l ++ rest) g ∙ append_assoc c (z ∷ []) rest
    ∙ ap (λ l. l ++ (z ∷ rest)) f ∙ append_assoc b (y ∷ []) (z ∷ rest)
    ∙ ap (λ l. l ++ (y ∷ z ∷ rest)) e ∙ append_assoc a (x ∷ []) (y ∷ z ∷ rest)

pub loop-byte-preserved : goal.loop-byte-preserved
loop-byte-preserved c =
    let old = c.loop-byte.words.items in
    let bytes = c.bytes-bytes.result.now in
    let i = c.loop-byte.byte-index in
    let rest = all_spaced (message_words (drop (i + 1) bytes)) in
    let word = c.word_of.result in
    let less : suc i ≡ i + 1 = omega arith in
    let next : drop i bytes ≡ get_or bytes i 0 ∷ drop (i + 1) bytes =
    drop-cons bytes i 0 c.loop-byte-test.true ∙ ap (λ (k : ℕ). get_or bytes i 0 ∷ drop k bytes) less in
    let one = c.push.ensures in
    let two = c.push-in-loop-byte.ensures in
    let three = c.push-in-loop-byte-2.ensures in
    let ascii = c.word_of.ensures.ascii in
    record {
      words =
          three_more old _ _ _ rest _ _ _ one.items two.items three.items
          ∙ ap (λ w. old ++ (get_or w 0 0 ∷ get_or w 1 0 ∷ get_or w 2 0 ∷ rest)) c.word_of.ensures.word
          ∙ ap (λ bs. old ++ all_spaced (message_words bs)) (sym next)
          ∙ c.loop-byte.invariant.words;
      ascii =
          subst IsAscii (sym three.items) (IsAscii-push _ _
          (subst IsAscii (sym two.items) (IsAscii-push _ _
          (subst IsAscii (sym one.items) (IsAscii-push old _ c.loop-byte.invariant.ascii (ascii 0))) (ascii 1)))
          (ascii 2));
      room = let r = c.loop-byte.invariant.room in omega (arith, r, one.len, two.len, three.len);
      few = c.loop-byte.invariant.few;
    }
