use Rattle.std.proofs.Common.{refl}
use Rattle.std.proofs.lemmas.Bool.{false≢true}
use Rattle.can_notation.specs.Faults.{HasIdentifier, HasRest}
use Rattle.can_notation.proofs.HashLemmas.{said_parts}
use Rattle.can_notation.proofs.FrameLemmas.{has_identifier, no_identifier, no_rest, says_frame}
use Rattle.can_notation.proofs.reading.read_text.Goals as goal

pub returns-in_default-clause-said : goal.returns-in_default-clause-said
returns-in_default-clause-said c = (
  λ e. absurd (false≢true e),
  λ says. absurd (c.in_default.ensures.none (said_parts c.args.text.now says).0),
)

pub returns-in_default-identifier-clause-said : goal.returns-in_default-identifier-clause-said
returns-in_default-identifier-clause-said c =
    let (_, before, _) = c.in-Some.ensures.some in
    let none = no_identifier c.args.text.now c.in-Some.before.now before c.in_default-identifier.ensures.none in (
      λ e. absurd (false≢true e),
      λ says. absurd (none (said_parts c.args.text.now says).1),
    )

pub returns-in_default-rest_of-clause-said : goal.returns-in_default-rest_of-clause-said
returns-in_default-rest_of-clause-said c =
    let (_, _, behind) = c.in-Some.ensures.some in
    let none = no_rest c.args.text.now c.in-Some.behind.now behind c.in_default-rest_of.ensures.none in (
      λ e. absurd (false≢true e),
      λ says. absurd (none (said_parts c.args.text.now says).2),
    )

pub returns-in_default-rest_of-clause-identifier : goal.returns-in_default-rest_of-clause-identifier
returns-in_default-rest_of-clause-identifier c =
    let (_, before, _) = c.in-Some.ensures.some in
    let (few, front) = c.in-Some-identifier.ensures.some in
    let ext = c.in-Some-identifier.ext in
    let id = c.in-Some-identifier.id in
    let has : HasIdentifier c.args.text.now =
    has_identifier c.args.text.now c.in-Some.before.now ext id before few front in
    (λ e. cc e, λ h. absurd (h.1 has))

pub returns-in_default-rest_of-clause-rest : goal.returns-in_default-rest_of-clause-rest
returns-in_default-rest_of-clause-rest c =
    let (hash, before, behind) = c.in-Some.ensures.some in
    let (few, front) = c.in-Some-identifier.ensures.some in
    let ext = c.in-Some-identifier.ext in
    let id = c.in-Some-identifier.id in
    let has : HasIdentifier c.args.text.now =
    has_identifier c.args.text.now c.in-Some.before.now ext id before few front in
    let none : ¬ HasRest c.args.text.now =
    no_rest c.args.text.now c.in-Some.behind.now behind c.in_default-rest_of.ensures.none in
    (λ _. (hash, has, none), λ _. refl)

pub returns-clause-ok : goal.returns-clause-ok
returns-clause-ok c =
    let (hash, before, behind) = c.in-Some.ensures.some in
    let (few, front) = c.in-Some-identifier.ensures.some in
    let (is, back) = c.in-Some-rest_of.ensures.some in
    rw (c.in-Ok.ensures.ok, c.as_slice.ensures.value)
    (says_frame c.args.text.now c.in-Some.before.now c.in-Some.behind.now c.in-Some-identifier.ext
    c.in-Some-identifier.id c.in-Some-rest_of.rest.rtr c.in-Some-rest_of.rest.dlc
    c.in-Some-rest_of.rest.bytes.items hash before behind few front is back)

pub returns-clause-said : goal.returns-clause-said
returns-clause-said c =
    let (valid, says) = returns-clause-ok c in
    (λ _. (c.in-Ok.frame, valid, says), λ _. refl)
