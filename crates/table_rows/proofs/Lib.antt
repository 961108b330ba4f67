mod BlankLaws
