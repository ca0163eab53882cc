use Rattle.text_wave.proofs.BitByBit.Going.{all_reading}
use Rattle.text_wave.proofs.SoFar.UpTo.{all_shown}
use Rattle.text_wave.proofs.wave_text.put_all.Goals as goal

pub finish_all-requires : goal.finish_all-requires
finish_all-requires c =
    let ended = c.in_ok-put_bits.ensures c.requires.parts c.requires.at in
    all_reading c.args.log.now.bits _ ended.parts ended.at

pub returns : goal.returns
returns c =
    all_shown c.args.log.now c.args.probes.now _ _ _ _ _ c.requires c.in_ok-put_values.ensures
    (c.in_ok-put_bits.ensures c.requires.parts c.requires.at) c.finish_all.ensures
