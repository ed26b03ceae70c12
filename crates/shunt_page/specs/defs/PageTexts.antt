-- The whole text of a page.
use Rattle.std.specs.Prelude.{ℕ, ◌==◌, List, ◌++◌, length, codes, if◌then◌else◌}
use Rattle.std.specs.List.{flat_map}
use Rattle.shunt_picture.specs.defs.PictureTexts.{svg_of}
use Rattle.shunt_page.specs.declared.records.FindingLine.{FindingLine}
use Rattle.shunt_page.specs.declared.records.Page.{Page}
use Rattle.shunt_page.specs.defs.RowTexts.{fact_row, finding_item, already_rows, order_rows, loose_rows, depart_rows}

-- how things look
unfoldable pub style_a : List ℕ
style_a = codes "<style>:root{color-scheme:light dark;--ground:#fff;--ink:#1c1c1c;--soft:#595959;--line:#c8ccd0;--head:#eef1f4;--lit:#fff3b0;--bad:#b00020;--link:#0b57a4}\n"
    ++ codes "@media screen and (prefers-color-scheme:dark){:root{--ground:#15181c;--ink:#e4e4e4;--soft:#a8a8a8;--line:#3f464d;--head:#22272d;--lit:#4a4210;--bad:#ff8a80;--link:#8cc4ff}}\n"

-- how things look
unfoldable pub style_b : List ℕ
style_b = codes "body{margin:0;background:var(--ground);color:var(--ink);font:1rem/1.45 system-ui,sans-serif}main{max-width:110rem;margin:0 auto;padding:1rem}h1{font-size:1.6rem;margin:.2rem 0 .8rem}h2{font-size:1.2rem;margin:1.6rem 0 .4rem}\n" ++ codes "table{border-collapse:collapse;font-variant-numeric:tabular-nums}caption{text-align:left;font-weight:600;padding:.2rem 0}th,td{text-align:left;vertical-align:top;padding:.2rem .6rem;border-bottom:1px solid var(--line)}th{font-weight:600}td.n{text-align:right}\n"

-- how things look
unfoldable pub style_c : List ℕ
style_c = codes ".list thead th{background:var(--head)}.list caption{position:absolute;width:1px;height:1px;overflow:hidden;clip-path:inset(50%)}.list ol{margin:0;padding-left:1.4rem}.sides{display:flex;flex-wrap:wrap;align-items:flex-start;gap:0 3rem}.sides th{font-weight:400;color:var(--soft)}\n" ++ codes "nav{margin:1rem 0;display:flex;flex-wrap:wrap;gap:.2rem 1.2rem}a{color:var(--link)}a:focus-visible,.wide:focus-visible{outline:3px solid var(--link);outline-offset:2px}.bad{color:var(--bad)}.out{color:var(--soft)}.wide{overflow-x:auto;position:relative}.wide .night{max-width:none;width:100%;min-width:75rem}\n"

-- how things look
unfoldable pub style_d : List ℕ
style_d = codes ".lit>td,.lit>th{background:var(--lit)}g.lit rect,g:target rect{stroke:#d00;stroke-width:3}g.lit text.label{text-decoration:underline;font-weight:bold}.list tbody:empty::after{content:'none';display:block;padding:.2rem .6rem}.sign{margin:2rem 0;border-bottom:1px solid;width:20rem;padding-top:2rem}\n" ++ codes "@media print{body{font-size:9pt}main{padding:0;max-width:none}nav{display:none}.wide{overflow:visible}.wide .night{min-width:0;width:100%;max-height:85vh}tr,li{break-inside:avoid}h2{break-after:avoid}a{color:inherit;text-decoration:none}.out{color:inherit}th,td{padding:.1rem .4rem}}</style>\n"

-- how things look
unfoldable pub style : List ℕ
style = style_a ++ style_b ++ style_c ++ style_d

-- what lights the bar and the train of an order, and the other way round
unfoldable pub script_a : List ℕ
script_a = codes "<script>(function(){'use strict'\n" ++ codes "var all=document.querySelectorAll('[data-block],[data-arrive],[data-depart]'),on=[]\n"

-- what lights the bar and the train of an order, and the other way round
unfoldable pub script_b : List ℕ
script_b = codes "function meets(a,b){if(a.block&&b.block)return a.block===b.block\n" ++ codes "return a.arrive&&a.arrive===b.arrive||a.depart&&a.depart===b.depart}\n"

-- what lights the bar and the train of an order, and the other way round
unfoldable pub script_c : List ℕ
script_c = codes "function light(e){var at=e.target.closest&&e.target.closest('[data-block],[data-arrive],[data-depart]')\n"
    ++ codes "on.forEach(function(x){x.classList.remove('lit')});on=[]\n"

-- what lights the bar and the train of an order, and the other way round
unfoldable pub script_d : List ℕ
script_d = codes "if(at)all.forEach(function(x){if(x===at||meets(at.dataset,x.dataset)){x.classList.add('lit');on.push(x)}})}\n"
    ++ codes "document.addEventListener('mouseover',light);document.addEventListener('focusin',light)})()</script>\n"

-- what lights the bar and the train of an order, and the other way round
unfoldable pub script : List ℕ
script = script_a ++ script_b ++ script_c ++ script_d

-- what each page begins with
unfoldable pub page_start : List ℕ
page_start = codes "<!DOCTYPE html>\n<html lang='en'>\n<head>\n<meta charset='utf-8'>\n<meta name='viewport' content='width=device-width'>\n<title>"

-- behind the station, in a title
unfoldable pub named : List ℕ
named = codes ": plan of the night"

-- the end of a table
unfoldable pub table_end : List ℕ
table_end = codes "</tbody>\n</table>\n</div>\n</section>\n"

-- the numbers of units and blocks
unfoldable pub counts_start : List ℕ
counts_start = codes "<div class='sides'>\n<table>\n<caption>Units and blocks</caption>\n"

-- the parts of the cost
unfoldable pub costs_start : List ℕ
costs_start = codes "</table>\n<table>\n<caption>Cost</caption>\n"

-- their end
unfoldable pub facts_end : List ℕ
facts_end = codes "</table>\n</div>\n"

-- the findings
unfoldable pub findings_start : List ℕ
findings_start = codes "<h2 id='findings'>Findings</h2>\n"

-- where there are none
unfoldable pub no_findings : List ℕ
no_findings = codes "<p>There are none.</p>\n"

-- what leads to the parts
unfoldable pub links : List ℕ
links = codes "<nav aria-label='parts'>\n<a href='#picture'>Picture</a>\n<a href='#stands'>Stands already</a>\n<a href='#orders'>Orders</a>\n<a href='#loose'>Not on a track</a>\n<a href='#trains'>Departing trains</a>\n</nav>\n"

-- the picture
unfoldable pub picture_start : List ℕ
picture_start = codes "<section>\n<h2 id='picture'>Picture</h2>\n<div class='wide' role='region' aria-label='Picture' tabindex='0'>\n"

-- the blocks that stand already
unfoldable pub stands_start : List ℕ
stands_start = codes "<section>\n<h2 id='stands'>Stands already</h2>\n<div class='wide' role='region' aria-label='Stands already' tabindex='0'>\n<table class='list'>\n<caption>Stands already</caption>\n<thead><tr><th scope='col'>block</th><th scope='col'>units</th><th scope='col'>train</th><th scope='col'>track</th><th scope='col'>stands</th><th scope='col'>load, dm</th><th scope='col'>length, dm</th></tr></thead>\n<tbody>"

-- the orders
unfoldable pub orders_start : List ℕ
orders_start = codes "<section>\n<h2 id='orders'>Orders</h2>\n<div class='wide' role='region' aria-label='Orders' tabindex='0'>\n<table class='list'>\n<caption>Orders</caption>\n<thead><tr><th scope='col'>time</th><th scope='col'>order</th><th scope='col'>block</th><th scope='col'>units</th><th scope='col'>train</th><th scope='col'>platform</th><th scope='col'>track</th><th scope='col'>side</th><th scope='col'>stands</th><th scope='col'>load, dm</th><th scope='col'>length, dm</th></tr></thead>\n<tbody>"

-- the blocks that are not on a track
unfoldable pub loose_start : List ℕ
loose_start = codes "<section>\n<h2 id='loose'>Not on a track</h2>\n<div class='wide' role='region' aria-label='Not on a track' tabindex='0'>\n<table class='list'>\n<caption>Not on a track</caption>\n<thead><tr><th scope='col'>block</th><th scope='col'>units</th><th scope='col'>comes with</th><th scope='col'>at</th><th scope='col'>platform</th><th scope='col'>goes with</th><th scope='col'>at</th><th scope='col'>platform</th><th scope='col'>why</th></tr></thead>\n<tbody>"

-- the departing trains
unfoldable pub trains_start : List ℕ
trains_start = codes "<section>\n<h2 id='trains'>Departing trains</h2>\n<div class='wide' role='region' aria-label='Departing trains' tabindex='0'>\n<table class='list'>\n<caption>Departing trains</caption>\n<thead><tr><th scope='col'>time</th><th scope='col'>train</th><th scope='col'>platform</th><th scope='col'>units from position 1 on</th></tr></thead>\n<tbody>"

-- the place for a name, and the end
unfoldable pub page_end : List ℕ
page_end = codes "<p class='sign'>Seen and signed:</p>\n</main>\n"

-- the head of the page
unfoldable pub title_part : List ℕ → List ℕ
title_part station = page_start ++ station ++ named ++ codes "</title>\n"

unfoldable pub heading_part : List ℕ → List ℕ
heading_part station = codes "</head>\n<body>\n<main>\n<h1>" ++ station ++ named ++ codes "</h1>\n"

unfoldable pub head_part : List ℕ → List ℕ
head_part station = title_part station ++ style ++ heading_part station

-- how many units, blocks, blocks without a stay and findings there are
unfoldable pub counts_part : Page → List ℕ
counts_part p = counts_start ++ fact_row (codes "units") p.units ++ fact_row (codes "blocks") p.blocks ++ fact_row (codes "blocks not on a track") (length p.loose)
    ++ fact_row (codes "findings") (length p.findings)

-- what the blocks cost, and what is stated of it
unfoldable pub parts_part : Page → List ℕ
parts_part p = costs_start ++ fact_row (codes "splits") p.parts.splits ++ fact_row (codes "couplings") p.parts.couplings ++ fact_row (codes "ways in") p.parts.ways_in
    ++ fact_row (codes "ways out") p.parts.ways_out ++ fact_row (codes "unparked blocks") p.parts.unparked

unfoldable pub costs_part : Page → List ℕ
costs_part p = parts_part p ++ fact_row (codes "together") p.cost ++ fact_row (codes "stated by the plan") p.stated ++ facts_end

-- the findings
abbrev pub finding_items : List FindingLine → List ℕ
finding_items findings = flat_map finding_item findings

unfoldable pub findings_list : List FindingLine → List ℕ
findings_list findings = codes "<ol class='bad'>\n" ++ finding_items findings ++ codes "</ol>\n"

unfoldable pub findings_part : List FindingLine → List ℕ
findings_part findings = findings_start ++ (if length findings == 0 then no_findings else findings_list findings)

unfoldable pub picture_part : Page → List ℕ
picture_part p = picture_start ++ svg_of p.picture ++ codes "</div>\n</section>\n"

-- the tables
unfoldable pub orders_part : Page → List ℕ
orders_part p = stands_start ++ already_rows p.rows ++ table_end ++ orders_start ++ order_rows p.rows ++ table_end

unfoldable pub trains_part : Page → List ℕ
trains_part p = loose_start ++ loose_rows p.loose ++ table_end ++ trains_start ++ depart_rows p.departs ++ table_end

-- what stands before the picture
unfoldable pub summary_part : Page → List ℕ
summary_part p = head_part p.station ++ counts_part p ++ costs_part p ++ findings_part p.findings ++ links

-- the whole text
unfoldable pub html_of : Page → List ℕ
html_of p = summary_part p ++ picture_part p ++ orders_part p ++ trains_part p ++ page_end ++ script ++ codes "</body>\n</html>\n"
