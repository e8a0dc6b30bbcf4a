use Rattle.std.proofs.lemmas.Result.{IfOk-weaker}
use Rattle.gs_event.specs.Steps.{Steps}
use Rattle.gs_event.proofs.RunLemmas.{runs_answered, run_views, run_pins}
use Rattle.gs_tree_store.proofs.RunLemmas.{tree_runs}
use Rattle.gs_core.proofs.stores.Store.run.Goals as goal

pub returns-clause-ran : goal.returns-clause-ran
returns-clause-ran c = IfOk-weaker c.run.result _ _ (λ answers run. tree_runs c.args.events.now answers.items c.args.self.now c.run.new.store run) c.run.ensures.ran

pub returns-clause-legal : goal.returns-clause-legal
returns-clause-legal c = IfOk-weaker c.run.result _ _ (λ answers run start before legal view. (run_views start before c.args.events.now answers.items c.args.self.now c.run.new.store (tree_runs c.args.events.now answers.items c.args.self.now c.run.new.store run) legal view).0) c.run.ensures.ran

pub returns-clause-answered : goal.returns-clause-answered
returns-clause-answered c = IfOk-weaker c.run.result _ _ (λ answers run. runs_answered Steps c.args.self.now c.run.new.store c.args.events.now answers.items (tree_runs c.args.events.now answers.items c.args.self.now c.run.new.store run)) c.run.ensures.ran

pub returns-clause-view : goal.returns-clause-view
returns-clause-view c = IfOk-weaker c.run.result _ _ (λ answers run start before legal view. (run_views start before c.args.events.now answers.items c.args.self.now c.run.new.store (tree_runs c.args.events.now answers.items c.args.self.now c.run.new.store run) legal view).1) c.run.ensures.ran

pub returns-clause-pinned : goal.returns-clause-pinned
returns-clause-pinned c = IfOk-weaker c.run.result _ _ (λ answers run start before legal view pins. run_pins start before c.args.events.now answers.items c.args.self.now c.run.new.store (tree_runs c.args.events.now answers.items c.args.self.now c.run.new.store run) view pins) c.run.ensures.ran
