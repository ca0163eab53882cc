use Rattle.text_wave.proofs.SoFar.UpTo.{lent_first, whole_wave}
use Rattle.text_wave.proofs.wave_text.wave.Goals as goal

pub put_all-requires : goal.put_all-requires
put_all-requires c =
    lent_first c.args.log.now _ _ _ c.nodes-2.ensures c.deref_mut.ensures.value c.in_ok-probes.ensures

pub returns : goal.returns
returns c =
    whole_wave c.args.log.now _ _ _ _ c.new-text.ensures.bytes c.nodes.ensures c.in_ok-put_declarations.ensures
    c.in_ok-put_all.ensures
