-- From the parser's answer to what the words ask for.
use Rattle.std.proofs.Common.{◌≡◌, ◌∙◌, List, [], ◌∷◌, Result, Ok, Err, Some, refl, sym, true, inl, inr}
use Rattle.std.specs.Prelude.{IfOk}
use Rattle.clap.specs.Words.{App, FailsBy, HasMatchesOf, Text, fault_of}
use Rattle.clap.specs.Words.{is_simple, is_simple_and_free, kind_of, subcommand_rows_of}
use Rattle.clap.specs.Kinds.{HasKind, Kinds}
use Rattle.clap.specs.declared.error.Error.{Error}
use Rattle.clap.specs.declared.error.kind.ErrorKind.TheVariants.{OutOfMemory}
use Rattle.clap.specs.declared.parser.matches.ArgMatches.{ArgMatches}
use Rattle.sja_command_line.specs.CommandLine.{sja_app}
use Rattle.sja_command_line.specs.Requests.{Request}
use Rattle.sja_command_line.specs.Words.{ParsesAs, asked, faults, request_in}
use Rattle.sja_command_line.proofs.LiteralWords.OnWords.{sja_on_literals}

-- the parser's answer to these words: matches where it takes them, with what they ask for; an error where it refuses
-- them, or where memory was refused
unfoldable pub IsAnswer : List Text → Result ArgMatches Error → Type 0
IsAnswer words (Ok matches) = (faults words ≡ []) × (request_in (subcommand_rows_of matches) ≡ asked words)
IsAnswer words (Err error) = faults words ≡ [] → kind_of error ≡ OutOfMemory

-- the program's commands are such that the parser's answer is known
is_plain : is_simple sja_app ≡ true
unfolding sja_on_literals
is_plain = refl

is_free : is_simple_and_free sja_app ≡ true
unfolding sja_on_literals
is_free = refl

-- what the matches ask for is what the words ask for
pub asked_at : (a : App) (words : List Text) (m : ArgMatches) → a ≡ sja_app → HasMatchesOf a words m →
    request_in (subcommand_rows_of m) ≡ asked words
unfolding asked
asked_at a words m is matches =
    let own : HasMatchesOf sja_app words m = rw is at matches in
    rw (own is_plain).1 refl

-- where the parser gives matches it finds no fault
pub taken_at : (a : App) (words : List Text) (m : ArgMatches) → a ≡ sja_app →
    (is_simple_and_free a ≡ true → FailsBy {T = ArgMatches} (fault_of a words) (Ok m)) → faults words ≡ []
unfolding faults
taken_at a words m is fails =
    let own : is_simple_and_free sja_app ≡ true → fault_of sja_app words ≡ [] = rw is at fails in
    own is_free

-- an error of no kind is one of memory
only_memory : (kinds : Kinds) (e : Error) → HasKind kinds e → kinds ≡ [] → kind_of e ≡ OutOfMemory
only_memory kinds e (inl memory) none = memory
only_memory [] e (inr among) none = absurd among
only_memory (k ∷ ks) e (inr among) none = cc

-- where the parser finds no fault its only error is one of memory
pub refused_at : (a : App) (words : List Text) (e : Error) → a ≡ sja_app →
    (is_simple_and_free a ≡ true → FailsBy {T = ArgMatches} (fault_of a words) (Err e)) → faults words ≡ [] →
    kind_of e ≡ OutOfMemory
unfolding faults
refused_at a words e is fails none =
    let own : is_simple_and_free sja_app ≡ true → HasKind (fault_of sja_app words) e = rw is at fails in
    only_memory (fault_of sja_app words) e (own is_free) none

-- from what the parser ensures to its answer
pub answered : (a : App) (words : List Text) (r : Result ArgMatches Error) → a ≡ sja_app →
    IfOk r (HasMatchesOf a words) →
    (is_simple_and_free a ≡ true → FailsBy (fault_of a words) r) → IsAnswer words r
unfolding IsAnswer
answered a words (Ok m) is matches fails = (taken_at a words m is fails, asked_at a words m is matches)
answered a words (Err e) is matches fails = λ none. refused_at a words e is fails none

-- the request of words that the parser took
pub taken_request : (words : List Text) (given : Result ArgMatches Error) (m : ArgMatches) (r : Request) →
    given ≡ Ok m → IsAnswer words given → request_in (subcommand_rows_of m) ≡ Some r → ParsesAs words r
unfolding IsAnswer
taken_request words given m r is answer found =
    let taken : IsAnswer words (Ok m) = rw is at answer in
    record { taken = taken.0; asks = sym taken.1 ∙ found }

-- and such words ask for it alone
pub asked_request : (words : List Text) (given : Result ArgMatches Error) (m : ArgMatches) (r : Request) →
    given ≡ Ok m → IsAnswer words given → ParsesAs words r → request_in (subcommand_rows_of m) ≡ Some r
unfolding IsAnswer
asked_request words given m r is answer parses =
    let taken : IsAnswer words (Ok m) = rw is at answer in
    taken.1 ∙ parses.asks

-- words that ask for something are refused where memory was
pub refused_request : (words : List Text) (given : Result ArgMatches Error) (e : Error) (r : Request) →
    given ≡ Err e → IsAnswer words given → ParsesAs words r → kind_of e ≡ OutOfMemory
unfolding IsAnswer
refused_request words given e r is answer parses =
    let refused : IsAnswer words (Err e) = rw is at answer in
    refused parses.taken
