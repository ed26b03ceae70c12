use Rattle.std.proofs.Common.{ℕ, Vec, Global}
use Rattle.shunt_store.proofs.NotedPieces.{closed_whole, closed_part, closed_any, first_opened}
use Rattle.shunt_store.proofs.reader.read_all.Goals as goal

pub returns-in_err-close_file-clause-some_heard : goal.returns-in_err-close_file-clause-some_heard
returns-in_err-close_file-clause-some_heard g c =
    closed_any _ _ _ _ _ c.in_ok-open_file.ensures.heard c.read_open-read.ensures.some_heard c.in_err-close_file.ensures.heard

pub returns-clause-heard : goal.returns-clause-heard
returns-clause-heard g c =
    closed_whole (λ (v : Vec ℕ Global). v.items) _ _ _ _ _ _ c.in_ok-open_file.ensures.heard c.read_open-read.ensures.heard c.in_ok-close_file.ensures.heard

pub returns-clause-long_heard : goal.returns-clause-long_heard
returns-clause-long_heard g c = λ e.
    closed_part _ _ _ _ _ _ c.in_ok-open_file.ensures.heard (first_opened _ _ _ _ _ _ _ c.in_ok-open_file.ensures.files c.in_ok-open_file.ensures.ok.0
    (c.read_open-read.ensures.long_heard e)) c.in_ok-close_file.ensures.heard

pub returns-clause-some_heard : goal.returns-clause-some_heard
returns-clause-some_heard g c =
    closed_any _ _ _ _ _ c.in_ok-open_file.ensures.heard c.read_open-read.ensures.some_heard c.in_ok-close_file.ensures.heard
