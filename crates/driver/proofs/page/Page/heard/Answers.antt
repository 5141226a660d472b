-- Each arm knows which answer it is.
use Rattle.driver.proofs.page.Page.heard.Goals as goal

pub returns-in-Err : goal.returns-in-Err
returns-in-Err c = rw c.in-Err.is c.refusal.ensures

pub returns-in-Ok : goal.returns-in-Ok
returns-in-Ok c = rw c.in-Ok.is c.reception.ensures
