use Rattle.std.proofs.Common.{rules}
use Rattle.sja_threads.proofs.run.run_drivers.Goals as goal

-- the closure may be called: its clauses are those of the function, and the bounds those of its types
pub scoped-requires : goal.scoped-requires
scoped-requires g c =
    let r = c.requires in record {
      at = λ a. (
        r.parts,
        (
          r.order,
          (
            r.told,
            (
              r.ports,
              (
                search rules,
                search rules,
                search rules,
                search rules,
              ),
            ),
          ),
        ),
      );
    }
