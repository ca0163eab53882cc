use Rattle.std.proofs.Common.{◌≡◌, map, take}
use Rattle.std.specs.List.{list_all}
use Rattle.text_codec.specs.declared.command_refusal.CommandRefusal.TheVariants.{OutOfMemory}
use Rattle.sja_run.specs.Files.{is_printed, of_each, printed_of, refused_of}
use Rattle.sja_run.specs.Inside.FileReads.{all_refused}
use Rattle.sja_run.specs.Inside.FileTexts.{Wrote}
use Rattle.sja_run.specs.declared.file_outcome.FileOutcome.TheVariants.{Refused}
use Rattle.sja_run.proofs.file_texts.refuse_all.Given as goal

-- those so far are written
abbrev pub invariant-loop-name : goal.invariant-loop-name
invariant-loop-name g l =
    let given = map (λ name. name.now) (take l.name-index l.names) in
    record {
      refused : l.refused ≡ Refused OutOfMemory;
      all : l.all ≡ list_all is_printed (all_refused given);
      out : Wrote l.fn.out.failed l.out.failed (g.O.Write.contents l.fn.out.writer) (g.O.Write.contents l.out.writer)
          (of_each (printed_of l.several) given (all_refused given));
      err : Wrote l.fn.err.failed l.err.failed (g.E.Write.contents l.fn.err.writer) (g.E.Write.contents l.err.writer)
          (of_each (refused_of l.several) given (all_refused given));
    }
