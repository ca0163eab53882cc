use Rattle.text_picture.proofs.copies.put_levels.Goals as goal

pub returns : goal.returns
unfolding lib.Utf8.encode
returns c = c.put_copies.ensures
