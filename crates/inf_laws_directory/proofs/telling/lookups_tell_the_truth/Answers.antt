use Rattle.inf_laws_directory.proofs.Lookups.{there_at_top, there_by_name, there_is_told}
use Rattle.inf_base.specs.declared.key.LookKey.{LookKey}
use Rattle.inf_message.specs.declared.ask.Ask.{Ask}
use Rattle.inf_base.specs.declared.key.LookKey.TheVariants as look
use Rattle.inf_message.specs.declared.request.Request.TheVariants as request
use Rattle.inf_laws_server.proofs.Came.{did}
use Rattle.inf_laws_directory.specs.Objects.{site_in}
use Rattle.inf_laws_server.proofs.Lookups.{name_comes, top_comes}
use Rattle.inf_laws_directory.proofs.telling.lookups_tell_the_truth.Goals as goal

-- whoever asks is told the same
lookup_of : LookKey → Ask
lookup_of sought = record {
  from = record { client = 0; number = 0 };
  caller = record { uid = 0; gid = 0 };
  request = request.Lookup sought;
}

pub returns-clause-names : goal.returns-clause-names
returns-clause-names c = λ service objects number root phases id name told access end is found.
    there_is_told service objects root phases told access (there_by_name service objects number 0 root (lookup_of (look.At id name)) told access end.reply end.state found id name
    (did (site_in service number) (objects number) 0 (lookup_of (look.At id name)) _ _ (name_comes (site_in service number) (objects number) 0 (lookup_of (look.At id name)) id name) end is))

pub returns-clause-top : goal.returns-clause-top
returns-clause-top c = λ service objects number root phases told access end stands is found.
    there_is_told service objects root phases told access (there_at_top service objects number 0 root (lookup_of look.Top) told access end.reply end.state found stands
    (did (site_in service number) (objects number) 0 (lookup_of look.Top) _ _ (top_comes (site_in service number) (objects number) 0 (lookup_of look.Top)) end is))
