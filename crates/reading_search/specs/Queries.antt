-- A query as the definitions say it.
use Rattle.definitions.specs.ReadingSearch as ReadingSearch
use Rattle.reading_search.specs.declared.query.Query.{Query}

abbrev pub query_of : Query → ReadingSearch.Query
query_of q = ReadingSearch.query q.position q.lowest q.highest q.wanted
