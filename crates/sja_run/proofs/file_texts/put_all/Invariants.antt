use Rattle.std.proofs.Common.{◌≡◌, map, take}
use Rattle.std.specs.List.{list_all}
use Rattle.sja_run.specs.Files.{is_printed, of_each, printed_of, refused_of}
use Rattle.sja_run.specs.Inside.FileTexts.{Wrote}
use Rattle.sja_run.proofs.file_texts.put_all.Given as goal

-- those so far are written
abbrev pub invariant-loop-index : goal.invariant-loop-index
invariant-loop-index g l = record {
  all : l.all ≡ list_all is_printed (take l.index l.outcomes);
  out : Wrote l.fn.out.failed l.out.failed (g.O.Write.contents l.fn.out.writer) (g.O.Write.contents l.out.writer)
      (of_each (printed_of l.several) (map (λ name. name.now) (take l.index l.names)) (take l.index l.outcomes));
  err : Wrote l.fn.err.failed l.err.failed (g.E.Write.contents l.fn.err.writer) (g.E.Write.contents l.err.writer)
      (of_each (refused_of l.several) (map (λ name. name.now) (take l.index l.names)) (take l.index l.outcomes));
}
