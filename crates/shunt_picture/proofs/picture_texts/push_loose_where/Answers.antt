use Rattle.std.proofs.Common.{◌++◌, codes}
use Rattle.shunt_picture.specs.defs.Told.{track_words}
use Rattle.shunt_picture.specs.defs.PictureTexts.{loose_times}
use Rattle.shunt_picture.proofs.Chained.{add}
use Rattle.shunt_picture.proofs.picture_texts.push_loose_where.Goals as goal
use Rattle.shunt_lists.proofs.Options.{on_ok}

pub returns : goal.returns
unfolding Rattle.shunt_picture.specs.defs.PictureTexts.loose_where
returns c = on_ok c.push_loose_times.result _ _ c.push_loose_times.ensures (λ last. add c.args.text.now c.push_track.new.text c.push_loose_times.new.text
    (codes "\nnot on a track" ++ track_words c.args.track.now) (loose_times c.args.enter c.args.leave)
    (add c.args.text.now c.push.new.self c.push_track.new.text (codes "\nnot on a track") (track_words c.args.track.now) c.in_ok-push.ensures c.in_ok-push_track.ensures) last)
