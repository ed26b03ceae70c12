use Rattle.std.proofs.Common.{◌++◌, codes, ap, ◌∙◌}
use Rattle.shunt_page.specs.defs.PageTexts.{named}
use Rattle.shunt_picture.proofs.Chained.{add}
use Rattle.shunt_page.proofs.page_texts.push_heading.Goals as goal
use Rattle.shunt_lists.proofs.Options.{on_ok}

pub returns : goal.returns
unfolding Rattle.shunt_page.specs.defs.PageTexts.heading_part
returns c = on_ok c.push-3.result _ _ c.push-3.ensures (λ last. add c.args.text.now c.push_named.new.text c.push-3.new.self
    (codes "</head>\n<body>\n<main>\n<h1>" ++ c.args.station.now ++ named) (codes "</h1>\n")
    (add c.args.text.now c.push-2.new.self c.push_named.new.text (codes "</head>\n<body>\n<main>\n<h1>" ++ c.args.station.now) (named)
    (add c.args.text.now c.push.new.self c.push-2.new.self (codes "</head>\n<body>\n<main>\n<h1>") (c.args.station.now) c.in_ok-push.ensures
    (c.in_ok-push-2.ensures ∙ ap (λ b. c.push.new.self ++ b) c.bytes.ensures.value)) c.in_ok-push_named.ensures) last)
